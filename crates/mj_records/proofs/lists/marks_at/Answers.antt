use Rattle.std.proofs.Common.{arith}
use Rattle.mj_records.proofs.GatherLaws.{marks_begin, marks_go_on, marks_lack, marks_are_out}
use Rattle.mj_records.proofs.lists.marks_at.Goals as goal

pub returns-in-None : goal.returns-in-None
returns-in-None c = marks_lack _ _ _ c.loop-before-test.true c.loop-before.invariant c.in_default.ensures c.in-None.ensures

pub loop-before-preserved : goal.loop-before-preserved
loop-before-preserved c = marks_go_on _ _ _ _ c.loop-before-test.true c.loop-before.invariant c.in_default.ensures c.in-Some-strip.ensures

pub returns : goal.returns
returns c = marks_are_out _ c.loop-before.before _ (omega (arith, c.loop-before-test.false)) c.loop-before.invariant

pub loop-before-init : goal.loop-before-init
loop-before-init c = marks_begin _
