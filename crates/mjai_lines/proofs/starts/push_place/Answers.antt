use Rattle.std.proofs.Common.{ap}
use Rattle.std.specs.Prelude.{decimal}
use Rattle.mjai_lines.proofs.Chains.{◌▸◌, as_piece}
use Rattle.mjai_lines.proofs.starts.push_place.Goals as goal

pub returns : goal.returns
returns c =
    c.in_ok-push_all.ensures.ok
    ▸ c.in_ok-push_kind.ensures
    ▸ c.in_ok-push_all-2.ensures.ok
    ▸ as_piece (ap decimal c.from.ensures) c.in_ok-push_number.ensures.ok
    ▸ c.in_ok-push_all-3.ensures.ok
    ▸ as_piece (ap decimal c.from-2.ensures) c.in_ok-push_number-2.ensures.ok
    ▸ c.in_ok-push_all-4.ensures.ok
    ▸ as_piece (ap decimal c.from-3.ensures) c.in_ok-push_number-3.ensures.ok
    ▸ c.in_ok-push_all-5.ensures.ok
    ▸ as_piece (ap decimal c.from-4.ensures) c.in_ok-push_number-4.ensures.ok
