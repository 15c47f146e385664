-- What was listed, and what is still to be, is the whole.
use Rattle.std.proofs.Common.{◌≡◌, ◌++◌, ◌-◌}
use Rattle.std.specs.List.{filter, range_with_len}
use Rattle.mj_tiles.specs.Counts.{all_kinds}
use Rattle.mj_safe.specs.Inner.Listing.{is_held_and_safe}
use Rattle.mj_safe.proofs.lines.safe_kinds.Given as goal

abbrev pub invariant-loop-number : goal.invariant-loop-number
invariant-loop-number l =
    l.kinds.items ++ filter (is_held_and_safe l.table.deeds l.seat l.against) (range_with_len l.number (34 - l.number)) ≡ filter (is_held_and_safe l.table.deeds l.seat l.against) all_kinds
