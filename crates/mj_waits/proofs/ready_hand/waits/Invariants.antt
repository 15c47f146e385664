use Rattle.mj_waits.proofs.WaitSteps.{WaitsSoFar}
use Rattle.mj_waits.proofs.ready_hand.waits.Given as goal

abbrev pub invariant-loop-number : goal.invariant-loop-number
invariant-loop-number l = WaitsSoFar l.counts l.room l.melds l.kinds l.number
