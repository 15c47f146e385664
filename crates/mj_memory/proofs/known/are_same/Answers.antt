use Rattle.std.proofs.Common.{arith}
use Rattle.mj_memory.proofs.Same.{same_more, all_same}
use Rattle.mj_memory.proofs.known.are_same.Goals as goal

pub loop-n-init : goal.loop-n-init
loop-n-init c = λ same k none. absurd (omega arith)

pub loop-n-preserved : goal.loop-n-preserved
loop-n-preserved c = same_more c.args.some.now c.args.others.now c.loop-n.n c.loop-n.same c.loop-n.invariant

pub returns : goal.returns
returns c = λ same. all_same c.args.some.now c.args.others.now c.loop-n.n (omega arith) (omega arith) (omega arith) (c.loop-n.invariant same)
