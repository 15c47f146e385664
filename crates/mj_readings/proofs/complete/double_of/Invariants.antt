use Rattle.mj_readings.proofs.Orphans.{OrphansSoFar}
use Rattle.mj_readings.proofs.complete.double_of.Given as goal

abbrev pub invariant-loop-place : goal.invariant-loop-place
invariant-loop-place l = OrphansSoFar l.numbers l.double l.place
