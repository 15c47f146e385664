use Rattle.std.proofs.Common.{ap}
use Rattle.std.specs.Prelude.{decimal}
use Rattle.mj_forms.specs.Lines.{points_text, reach_accepted_line}
use Rattle.mjai_lines.proofs.Chains.{◌▸◌, as_piece}
use Rattle.mjai_lines.proofs.riichi.push_reach_accepted.Goals as goal

pub returns : goal.returns
unfolding reach_accepted_line
returns c =
    c.in_ok-push_all.ensures.ok
    ▸ as_piece (ap decimal c.from.ensures) c.in_ok-push_number.ensures.ok
    ▸ c.in_ok-push_all-2.ensures.ok
    ▸ as_piece (ap (λ points. points_text points) c.deposit.ensures.value) c.in_ok-push_points.ensures
    ▸ c.in_ok-push_all-3.ensures.ok
    ▸ c.in_ok-push_points-2.ensures
    ▸ c.in_ok-push_kept.ensures
    ▸ c.in_ok-push_all-4.ensures.ok
