use Rattle.std.proofs.Common.{arith}
use Rattle.mj_tiles.specs.Kinds.{has_kind}
use Rattle.mj_hand.proofs.TextSteps.{passing_start, passing_step}
use Rattle.mj_hand.proofs.lines.kinds_in.Goals as goal

pub loop-number-init : goal.loop-number-init
loop-number-init c = passing_start (has_kind c.args.set) c.new-kinds.result.items c.new-kinds.ensures.items

pub loop-number-preserved : goal.loop-number-preserved
loop-number-preserved c =
    passing_step (has_kind c.args.set) c.loop-number.kinds.items _ _ c.loop-number.number c.at-kind.result c.has.result (omega arith) c.loop-number.invariant
    c.in_ok-push_if.ensures c.at-kind.ensures c.has.ensures
