use Rattle.mj_tiles.specs.Kinds.{has_kind}
use Rattle.mj_page.proofs.Bits.{Gathered}
use Rattle.mj_page.proofs.sets.kinds_of.Given as goal

abbrev pub invariant-loop-number : goal.invariant-loop-number
invariant-loop-number l = Gathered l.kinds (has_kind l.bits) l.number
