use Rattle.mj_ports.specs.declared.entry.Entry.TheVariants.{Gone}
use Rattle.mj_umpire.proofs.Games.{gone-can, kept-more}
use Rattle.mj_umpire.proofs.umpire.Umpire.gone.Goals as goal

pub leave-requires-after_bounds : goal.leave-requires-after_bounds
leave-requires-after_bounds g c κs within = gone-can _ _ c.self.inside.state c.args.author c.args.seat c.self.invariant (rw (← c.self.view_is) at c.requires)

pub invariant_of-self-in-Ok : goal.invariant_of-self-in-Ok
invariant_of-self-in-Ok g c =
    rw c.leave.ensures.setting
    (kept-more _ c.self.inside.entries.items _ c.self.inside.state _ (Gone c.args.author c.args.seat) c.self.invariant (rw (← c.self.view_is) at c.requires)
    (c.in-Ok.ensures.ok c.args.author) (rw (c.reserve.ensures.items, c.gone.ensures) at c.push_reserved.ensures.items))
