use Rattle.std.proofs.Common.{length}
use Rattle.mj_embedded.proofs.WallLines.{TakesWalls}
use Rattle.mj_embedded.proofs.opening.walls_of.Given as goal

abbrev pub invariant-loop-line : goal.invariant-loop-line
invariant-loop-line l = TakesWalls l.red l.text l.walls.items l.rest

abbrev pub decreases-loop-line : goal.decreases-loop-line
decreases-loop-line l = length l.rest
