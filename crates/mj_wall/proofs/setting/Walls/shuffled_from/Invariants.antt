use Rattle.mj_wall.proofs.Shuffles.{AreFrom}
use Rattle.mj_wall.proofs.setting.Walls.shuffled_from.Given as goal

abbrev pub invariant-loop-n : goal.invariant-loop-n
invariant-loop-n l = AreFrom l.seed l.red l.fn.first l.n l.items.items
