use Rattle.std.proofs.Common.{arith}
use Rattle.mj_memory.proofs.Discarding.{beside_first, beside_second, beside_third, beside_last}
use Rattle.mj_memory.proofs.ways.Ways.beside.Goals as goal

pub returns-in-0 : goal.returns-in-0
returns-in-0 c =
    beside_first c.args.self.now c.self.inside.counts c.self.inside.room _ _ _ _ _ _ _
    c.args.suit c.self.view_is c.self.invariant c.in-0.is c.joined-others.ensures c.joined.ensures

pub returns-in-1 : goal.returns-in-1
returns-in-1 c =
    beside_second c.args.self.now c.self.inside.counts c.self.inside.room _ _ _ _ _ _ _
    c.args.suit c.self.view_is c.self.invariant c.in-1.is c.joined-others-in-1.ensures c.joined-in-1.ensures

pub returns-in-2 : goal.returns-in-2
returns-in-2 c =
    beside_third c.args.self.now c.self.inside.counts c.self.inside.room _ _ _ _ _ _ _
    c.args.suit c.self.view_is c.self.invariant c.in-2.is c.joined-others-in-2.ensures c.joined-in-2.ensures

pub returns-in_default : goal.returns-in_default
returns-in_default c =
    beside_last c.args.self.now c.self.inside.counts c.self.inside.room _ _ _ _ _
    c.args.suit c.self.view_is c.self.invariant (omega arith)
