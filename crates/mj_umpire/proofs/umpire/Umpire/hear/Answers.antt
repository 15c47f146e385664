use Rattle.mj_ports.specs.declared.entry.Entry.TheVariants.{Said}
use Rattle.mj_umpire.proofs.Games.{hear-can, said-may, kept-more, hear-entered}
use Rattle.mj_umpire.proofs.umpire.Umpire.hear.Goals as goal

pub hear-requires-after_bounds : goal.hear-requires-after_bounds
hear-requires-after_bounds g c κs within = hear-can _ _ c.self.inside.state c.args.author c.args.seat c.args.answer.now c.self.invariant (rw (← c.self.view_is) at c.requires.may) c.requires.form

pub invariant_of-self-in-Ok : goal.invariant_of-self-in-Ok
invariant_of-self-in-Ok g c =
    rw c.hear.ensures.setting
    (kept-more _ c.self.inside.entries.items _ c.self.inside.state _ (Said c.args.author c.args.seat c.args.answer.now) c.self.invariant
    (said-may c.self.inside.setting _ c.args.author c.args.seat c.args.answer.now (rw (← c.self.view_is) at c.requires.may) c.requires.form)
    (c.in-Ok.ensures.ok.entered c.args.author) (rw (c.reserve.ensures.items, c.said.ensures) at c.push_reserved.ensures.items))

pub returns-in-Ok : goal.returns-in-Ok
returns-in-Ok g c =
    rw (c.heard_by.ensures, c.hear.ensures.setting, ← c.self.view_is)
    (hear-entered _ c.self.inside.entries.items _ c.self.inside.state _ c.args.author c.args.seat c.args.answer.now c.in-Ok.verdict c.self.invariant c.in-Ok.ensures.ok
    (rw (c.reserve.ensures.items, c.said.ensures) at c.push_reserved.ensures.items))
