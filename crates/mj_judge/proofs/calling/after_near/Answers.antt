use Rattle.std.proofs.Common.{arith}
use Rattle.mj_judge.proofs.Near.{far_after}
use Rattle.mj_judge.proofs.calling.after_near.Goals as goal

pub returns-clause-far : goal.returns-clause-far
returns-clause-far c = λ place behind low. far_after c.args.tile _ place (omega (arith, c.kind.ensures, c.number.ensures.value, c.from.ensures)) behind low
