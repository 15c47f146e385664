use Rattle.std.proofs.Common.{ap, map}
use Rattle.std.specs.Prelude.{decimal}
use Rattle.mj_forms.specs.Lines.{bracketed, quoted_tile}
use Rattle.mjai_lines.proofs.Chains.{◌▸◌, as_piece}
use Rattle.mjai_lines.proofs.winning.push_winner.Goals as goal

pub returns : goal.returns
returns c =
    c.in_ok-push_all.ensures.ok
    ▸ as_piece (ap decimal c.from.ensures) c.in_ok-push_number.ensures.ok
    ▸ c.in_ok-push_all-2.ensures.ok
    ▸ as_piece (ap decimal c.from-2.ensures) c.in_ok-push_number-2.ensures.ok
    ▸ c.in_ok-push_all-3.ensures.ok
    ▸ c.in_ok-push_tile.ensures
    ▸ c.in_ok-push_all-4.ensures.ok
    ▸ as_piece (ap (λ tiles. bracketed (map quoted_tile tiles)) c.as_slice.ensures) c.in_ok-push_tiles_seen.ensures
    ▸ c.in_ok-push_all-5.ensures.ok
    ▸ as_piece (ap (λ tiles. bracketed (map quoted_tile tiles)) c.as_slice-2.ensures) c.in_ok-push_tiles_seen-2.ensures
