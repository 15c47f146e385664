use Rattle.std.proofs.Common.{sym, ◌∙◌}
use Rattle.mj_umpire.proofs.Pieces.{position, settles-open}
use Rattle.mj_umpire.proofs.Turns.{settled}
use Rattle.mj_umpire.proofs.state.State.settle.Goals as goal

pub returns-then-is_closed-clause-ok : goal.returns-then-is_closed-clause-ok
returns-then-is_closed-clause-ok g c =
    let old = position (g.T.Telling.play c.self.inside.told).rules c.self.inside.deeds.items c.self.inside.desk c.self.inside.chairs.items c.self.inside.window in
    let moved = position (g.T.Telling.play c.self-then-is_closed.inside.told).rules c.self-then-is_closed.inside.deeds.items
    c.self-then-is_closed.inside.desk c.self-then-is_closed.inside.chairs.items c.self-then-is_closed.inside.window in
    rw (← c.self.view_is)
    (settled c.args.setting.now old moved c.args.seat c.from.result c.args.desk.now c.args.chair (rw (← c.self.view_is) at c.requires)
    c.self.invariant.seated.many c.from.ensures (sym (rw (← c.self.view_is) at c.is_closed.ensures) ∙ c.if-is_closed.true)
    (rw (← c.self.view_is, ← c.self-then-is_closed.view_is) at c.in_ok-advance.ensures.ok))

pub returns-clause-ok : goal.returns-clause-ok
returns-clause-ok g c =
    let old = position (g.T.Telling.play c.self.inside.told).rules c.self.inside.deeds.items c.self.inside.desk c.self.inside.chairs.items c.self.inside.window in
    rw (c.from-2.ensures, ← c.self.view_is)
    (settles-open c.args.setting.now old c.args.seat c.args.desk.now c.args.chair c.self.inside.window c.self.invariant.seated.many
    (rw (← c.self.view_is) at c.requires) (sym (rw (← c.self.view_is) at c.is_closed.ensures) ∙ c.if-is_closed.false))
