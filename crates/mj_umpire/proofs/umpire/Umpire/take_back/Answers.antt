use Rattle.mj_ports.specs.declared.entry.Entry.TheVariants.{Back}
use Rattle.mj_umpire.proofs.Games.{back-may, back-can, kept-more, back-entered}
use Rattle.mj_umpire.proofs.umpire.Umpire.take_back.Goals as goal

pub take_back-requires-after_bounds : goal.take_back-requires-after_bounds
take_back-requires-after_bounds g c κs within = back-can _ _ c.self.inside.state c.args.seat c.args.join.now c.self.invariant c.requires.name (rw (← c.self.view_is) at c.requires.placing)

pub invariant_of-self-in-Ok : goal.invariant_of-self-in-Ok
invariant_of-self-in-Ok g c =
    rw c.take_back.ensures.setting
    (kept-more _ c.self.inside.entries.items _ c.self.inside.state _ (Back c.args.author c.args.seat) c.self.invariant
    (back-may _ _ c.self.inside.state c.args.author c.args.seat c.args.join.now c.self.invariant c.requires.name (rw (← c.self.view_is) at c.requires.placing))
    c.in-Ok.ensures.ok (rw (c.reserve.ensures.items, c.back.ensures) at c.push_reserved.ensures.items))

pub returns-in-Ok : goal.returns-in-Ok
returns-in-Ok g c =
    rw (c.take_back.ensures.setting, ← c.self.view_is)
    (back-entered _ c.self.inside.entries.items _ c.args.author c.args.seat c.args.join.now (rw (← c.self.view_is) at c.requires.placing)
    (rw (c.reserve.ensures.items, c.back.ensures) at c.push_reserved.ensures.items))
