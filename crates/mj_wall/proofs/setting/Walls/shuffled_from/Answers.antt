use Rattle.std.proofs.Common.{◌+◌, arith, refl}
use Rattle.mj_wall.proofs.Shuffles.{from_none, from_more, from_all}
use Rattle.mj_wall.proofs.setting.Walls.shuffled_from.Goals as goal

pub loop-n-init : goal.loop-n-init
loop-n-init c = from_none c.args.seed c.args.red c.args.first c.new-items.result.items c.new-items.ensures.items

pub loop-n-preserved : goal.loop-n-preserved
loop-n-preserved c =
    from_more c.args.seed c.args.red c.args.first c.loop-n.n (c.loop-n.n + 1) c.shuffled.result c.loop-n.items.items c.push.new.self.items refl
    c.shuffled.ensures.value c.shuffled.ensures.whole c.in_ok-push.ensures.items c.loop-n.invariant

pub returns-clause-value : goal.returns-clause-value
returns-clause-value c = from_all c.args.seed c.args.red c.args.first c.args.number c.loop-n.n c.loop-n.items.items (omega (arith, c.loop-n-test.false, c.loop-n.auto)) c.loop-n.invariant
