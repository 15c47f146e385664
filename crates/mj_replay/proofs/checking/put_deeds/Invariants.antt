use Rattle.std.proofs.Common.{length}
use Rattle.mj_replay.specs.Inner.Steps.{IsList}
use Rattle.mj_replay.proofs.CheckLaws.{InPlay}
use Rattle.mj_replay.proofs.checking.put_deeds.Given as goal

abbrev pub invariant-loop-line : goal.invariant-loop-line
invariant-loop-line l = record {
  play : InPlay l.fn.table.rules l.walls l.text l.rest l.table l.deeds;
  list : IsList l.fn.keeps l.kept.items l.table.deeds;
}

abbrev pub decreases-loop-line : goal.decreases-loop-line
decreases-loop-line l = length l.rest
