use Rattle.std.proofs.Common.{arith}
use Rattle.mj_hand.proofs.TextSteps.{sorted_start, sorted_step}
use Rattle.mj_hand.proofs.lines.kinds_of.Goals as goal

pub loop-number-init : goal.loop-number-init
loop-number-init c = sorted_start c.args.counts.now c.new-kinds.result.items c.new-kinds.ensures.items

pub loop-number-preserved : goal.loop-number-preserved
loop-number-preserved c =
    sorted_step c.args.counts.now c.loop-number.kinds.items _ _ c.loop-number.number c.at-kind.result c.get.result (omega arith) c.loop-number.invariant
    c.in_ok-push_times.ensures c.at-kind.ensures c.get.ensures.value
