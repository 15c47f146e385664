use Rattle.std.proofs.Common.{arith}
use Rattle.mj_hand.proofs.KindLists.{too_many, few_enough}
use Rattle.mj_hand.proofs.hand.are_within_four.Goals as goal

pub returns-then-get-gt4 : goal.returns-then-get-gt4
returns-then-get-gt4 c =
    too_many c.args.counts.now c.args.melded.now c.at-kind.result c.loop-number.number c.get.result c.get-in-loop-number.result
    c.loop-number-test.true c.at-kind.ensures c.get.ensures.value c.get-in-loop-number.ensures.value c.if-get-gt4.true

pub returns : goal.returns
returns c = few_enough c.args.counts.now c.args.melded.now c.loop-number.number (omega arith) c.loop-number.invariant
