-- What was listed, and what is still to be, is the whole.
use Rattle.std.proofs.Common.{◌≡◌, ◌++◌, ◌-◌}
use Rattle.std.specs.List.{filter, range_with_len}
use Rattle.mj_tiles.specs.Counts.{all_kinds}
use Rattle.mj_tiles.specs.Kinds.{has_kind}
use Rattle.mj_hand.proofs.lines.kinds_in.Given as goal

abbrev pub invariant-loop-number : goal.invariant-loop-number
invariant-loop-number l = l.kinds.items ++ filter (has_kind l.set) (range_with_len l.number (34 - l.number)) ≡ filter (has_kind l.set) all_kinds
