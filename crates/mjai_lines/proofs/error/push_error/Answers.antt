use Rattle.std.proofs.Common.{ap}
use Rattle.std.specs.Prelude.{decimal}
use Rattle.mj_forms.specs.Lines.{error_text, quoted}
use Rattle.mjai_lines.proofs.Chains.{◌▸◌, as_piece}
use Rattle.mjai_lines.proofs.error.push_error.Goals as goal

pub returns : goal.returns
unfolding error_text
returns c =
    c.in_ok-push_all.ensures.ok
    ▸ as_piece (ap decimal c.rule_number.ensures) c.in_ok-push_number.ensures.ok
    ▸ c.in_ok-push_all-2.ensures.ok
    ▸ as_piece (ap quoted c.name_of.ensures) c.in_ok-push_quoted.ensures
    ▸ c.in_ok-push_all-3.ensures.ok
