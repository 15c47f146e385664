use Rattle.mj_refereeing.proofs.RunLaws.{said-all, said-part}
use Rattle.mj_refereeing.proofs.referee.referee.Goals as goal

pub returns-in-Whole-clause-tells : goal.returns-in-Whole-clause-tells
returns-in-Whole-clause-tells g c = said-all c.args.question c.args.seat c.args.input.now _ _ _ _ c.requires.seat c.in-Ok.ensures (rw c.as_slice.ensures.value at c.in-Whole.ensures.bytes)

pub returns-clause-tells : goal.returns-clause-tells
returns-clause-tells g c = said-part c.args.question c.args.seat c.args.input.now _ _ _ _ c.requires.seat c.in-Ok.ensures (rw c.as_slice.ensures.value at c.in-Failed.ensures.bytes)
