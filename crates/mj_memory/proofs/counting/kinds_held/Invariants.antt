-- The kinds gone through.
use Rattle.std.proofs.Common.{◌≡◌, take}
use Rattle.mj_shanten.specs.Inner.Special.{so_often}
use Rattle.mj_memory.proofs.counting.kinds_held.Given as goal

abbrev pub invariant-loop-kind : goal.invariant-loop-kind
invariant-loop-kind l = record {
  many : l.many ≡ so_often l.times (take l.kind l.numbers);
}
