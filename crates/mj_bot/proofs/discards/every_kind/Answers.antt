use Rattle.std.proofs.Common.{arith}
use Rattle.mj_bot.proofs.Lawful.{every_more}
use Rattle.mj_bot.proofs.discards.every_kind.Goals as goal

pub loop-number-preserved : goal.loop-number-preserved
loop-number-preserved c = every_more _ _ _ _ c.with-kinds.ensures c.at.ensures c.loop-number.invariant

pub returns : goal.returns
returns c = λ kind low. c.loop-number.invariant kind (omega arith)
