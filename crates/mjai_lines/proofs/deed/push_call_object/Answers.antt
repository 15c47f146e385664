use Rattle.std.proofs.Common.{ap}
use Rattle.std.specs.Prelude.{decimal}
use Rattle.mj_forms.specs.Lines.{call_object}
use Rattle.mjai_lines.proofs.Chains.{◌▸◌, as_piece}
use Rattle.mjai_lines.proofs.deed.push_call_object.Goals as goal

pub returns : goal.returns
unfolding call_object
returns c =
    c.in_ok-push_all.ensures.ok
    ▸ c.in_ok-push_quoted.ensures
    ▸ c.in_ok-push_all-2.ensures.ok
    ▸ as_piece (ap decimal c.from.ensures) c.in_ok-push_number.ensures.ok
    ▸ c.in_ok-push_all-3.ensures.ok
    ▸ as_piece (ap decimal c.from-2.ensures) c.in_ok-push_number-2.ensures.ok
    ▸ c.in_ok-push_all-4.ensures.ok
    ▸ c.in_ok-push_tile.ensures
    ▸ c.in_ok-push_all-5.ensures.ok
    ▸ c.in_ok-push_tiles_seen.ensures
    ▸ c.in_ok-push_all-6.ensures.ok
