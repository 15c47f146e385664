-- The kinds looked at so far.
use Rattle.mj_suits.specs.Improves.{Improves}
use Rattle.mj_shanten.specs.Inner.Special.{IsOrphansBelow}
use Rattle.mj_shanten.proofs.orphans.take_orphans.Given as goal

abbrev pub invariant-loop-double : goal.invariant-loop-double
invariant-loop-double l = Improves l.held (IsOrphansBelow l.double) l.initial.best l.best
