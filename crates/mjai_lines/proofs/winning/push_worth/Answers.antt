use Rattle.std.proofs.Common.{ap, map}
use Rattle.std.specs.Prelude.{decimal}
use Rattle.mj_forms.specs.Lines.{bracketed, row_text}
use Rattle.mjai_lines.proofs.Chains.{◌▸◌, as_piece}
use Rattle.mjai_lines.proofs.winning.push_worth.Goals as goal

pub returns : goal.returns
returns c =
    c.in_ok-push_all.ensures.ok
    ▸ as_piece (ap (λ rows. bracketed (map row_text rows)) c.as_slice.ensures.value) c.in_ok-push_rows.ensures
    ▸ c.in_ok-push_all-2.ensures.ok
    ▸ as_piece (ap decimal c.from.ensures) c.in_ok-push_number.ensures.ok
    ▸ c.in_ok-push_all-3.ensures.ok
    ▸ as_piece (ap decimal c.from-2.ensures) c.in_ok-push_number-2.ensures.ok
    ▸ c.in_ok-push_all-4.ensures.ok
    ▸ as_piece (ap decimal c.from-3.ensures) c.in_ok-push_number-3.ensures.ok
