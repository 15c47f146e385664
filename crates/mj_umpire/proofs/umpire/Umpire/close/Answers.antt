use Rattle.mj_ports.specs.declared.entry.Entry.TheVariants.{Expired}
use Rattle.mj_umpire.proofs.Games.{expire-can, kept-more}
use Rattle.mj_umpire.proofs.umpire.Umpire.close.Goals as goal

pub expire-requires-after_bounds : goal.expire-requires-after_bounds
expire-requires-after_bounds g c κs within = expire-can _ _ c.self.inside.state c.args.author c.args.window c.args.t1 c.args.t2 c.self.invariant (rw (← c.self.view_is) at c.requires)

pub invariant_of-self-in-Ok-expire : goal.invariant_of-self-in-Ok-expire
invariant_of-self-in-Ok-expire g c =
    rw c.expire.ensures.setting
    (kept-more _ c.self.inside.entries.items _ c.self.inside.state _ (Expired c.args.author c.args.window c.args.t1 c.args.t2) c.self.invariant (rw (← c.self.view_is) at c.requires)
    (c.in-Ok-expire.ensures.ok c.args.author c.args.window c.args.t1 c.args.t2) (rw (c.reserve.ensures.items, c.in-Ok.ensures) at c.push_reserved.ensures.items))
