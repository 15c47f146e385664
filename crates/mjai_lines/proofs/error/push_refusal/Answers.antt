use Rattle.std.proofs.Common.{ap}
use Rattle.std.specs.Prelude.{decimal}
use Rattle.mj_forms.specs.Lines.{refusal_line, quoted}
use Rattle.mjai_lines.proofs.Chains.{◌▸◌, as_piece}
use Rattle.mjai_lines.proofs.error.push_refusal.Goals as goal

pub returns : goal.returns
unfolding refusal_line
returns c =
    c.in_ok-push_all.ensures.ok
    ▸ as_piece (ap decimal c.refusal_number.ensures) c.in_ok-push_number.ensures.ok
    ▸ c.in_ok-push_all-2.ensures.ok
    ▸ as_piece (ap quoted c.refusal_name.ensures) c.in_ok-push_quoted.ensures
    ▸ c.in_ok-push_all-3.ensures.ok
