use Rattle.std.proofs.Common.{arith}
use Rattle.mj_readings.proofs.completing_kinds.is_completed_in.Goals as goal

pub returns-clause-none : goal.returns-clause-none
returns-clause-none c = λ so kind within low high. c.loop-number.invariant kind low (omega (arith, c.loop-number-test.false, c.end_of-end.ensures.last kind within high))
