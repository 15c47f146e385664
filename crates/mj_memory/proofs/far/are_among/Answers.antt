use Rattle.std.proofs.Common.{arith}
use Rattle.mj_memory.proofs.Same.{among_more}
use Rattle.mj_memory.proofs.far.are_among.Goals as goal

pub loop-k-init : goal.loop-k-init
loop-k-init c = λ among k none. absurd (omega arith)

pub loop-k-preserved : goal.loop-k-preserved
loop-k-preserved c = among_more c.args.some.now c.args.others.now c.loop-k.k c.loop-k.among c.loop-k.invariant

pub returns : goal.returns
returns c = λ among k low. c.loop-k.invariant among k (omega arith)
