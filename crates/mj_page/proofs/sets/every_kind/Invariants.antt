use Rattle.std.proofs.Common.{true}
use Rattle.mj_page.proofs.Bits.{Gathered}
use Rattle.mj_page.proofs.sets.every_kind.Given as goal

abbrev pub invariant-loop-number : goal.invariant-loop-number
invariant-loop-number l = Gathered l.kinds (λ kind. true) l.number
