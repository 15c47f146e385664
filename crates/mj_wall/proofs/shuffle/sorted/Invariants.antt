use Rattle.mj_wall.proofs.Shuffles.{AreSorted}
use Rattle.mj_wall.proofs.shuffle.sorted.Given as goal

abbrev pub invariant-loop-place : goal.invariant-loop-place
invariant-loop-place l = AreSorted l.red l.tiles l.place
