use Rattle.std.proofs.Common.{ap}
use Rattle.std.specs.Prelude.{decimal}
use Rattle.mj_forms.specs.Lines.{closed_kan_line}
use Rattle.mjai_lines.proofs.Chains.{◌▸◌, as_piece}
use Rattle.mjai_lines.proofs.deed.push_closed_kan.Goals as goal

pub returns : goal.returns
unfolding closed_kan_line
returns c =
    c.in_ok-push_all.ensures.ok
    ▸ as_piece (ap decimal c.from.ensures) c.in_ok-push_number.ensures.ok
    ▸ c.in_ok-push_all-2.ensures.ok
    ▸ c.in_ok-push_tiles_seen.ensures
    ▸ c.in_ok-push_all-3.ensures.ok
