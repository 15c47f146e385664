use Rattle.std.proofs.Common.{ap}
use Rattle.std.specs.Prelude.{decimal}
use Rattle.mj_forms.specs.Lines.{quoted}
use Rattle.mjai_lines.proofs.Chains.{◌▸◌, as_piece}
use Rattle.mjai_lines.proofs.winning.push_row.Goals as goal

pub returns : goal.returns
returns c =
    c.in_ok-push_all.ensures.ok
    ▸ as_piece (ap quoted c.yaku_name.ensures) c.in_ok-push_quoted.ensures
    ▸ (c.in_ok-push_all-2.ensures.ok ▸ as_piece (ap decimal c.from.ensures) c.in_ok-push_number.ensures.ok)
    ▸ c.in_ok-push_all-3.ensures.ok
