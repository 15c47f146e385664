-- The kind stands after the others as often as it was added.
use Rattle.std.proofs.Common.{◌≡◌, ◌++◌, replicate}
use Rattle.mj_tiles.proofs.kind.push_times.Given as goal

abbrev pub invariant-loop-time : goal.invariant-loop-time
invariant-loop-time l = l.kinds.items ≡ l.initial.kinds.items ++ replicate l._time l.kind
