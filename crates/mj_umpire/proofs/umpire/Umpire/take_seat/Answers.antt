use Rattle.mj_ports.specs.declared.entry.Entry.TheVariants.{Sat}
use Rattle.mj_umpire.proofs.Games.{sat-may, sat-can, kept-more, sat-entered}
use Rattle.mj_umpire.proofs.umpire.Umpire.take_seat.Goals as goal

pub take_seat-requires-after_bounds : goal.take_seat-requires-after_bounds
take_seat-requires-after_bounds g c κs within = sat-can _ _ c.self.inside.state c.args.seat c.args.join.now c.self.invariant c.requires.name (rw (← c.self.view_is) at c.requires.placing)

pub invariant_of-self-in-Ok-take_seat : goal.invariant_of-self-in-Ok-take_seat
invariant_of-self-in-Ok-take_seat g c =
    kept-more _ c.self.inside.entries.items _ c.self.inside.state _ (Sat c.args.author c.args.join.now.name c.args.join.now.key) c.self.invariant
    (sat-may _ _ c.self.inside.state c.args.author c.args.seat c.args.join.now c.self.invariant c.requires.name (rw (← c.self.view_is) at c.requires.placing))
    (c.in-Ok-take_seat.ensures.ok _) (rw (c.reserve.ensures.items, c.in-Ok.ensures) at c.push_reserved.ensures.items)

pub returns-in-Ok-take_seat : goal.returns-in-Ok-take_seat
returns-in-Ok-take_seat g c =
    rw (← c.self.view_is)
    (sat-entered _ c.self.inside.entries.items _ c.args.author c.args.seat c.args.join.now (rw (← c.self.view_is) at c.requires.placing)
    (rw (c.reserve.ensures.items, c.in-Ok.ensures) at c.push_reserved.ensures.items))
