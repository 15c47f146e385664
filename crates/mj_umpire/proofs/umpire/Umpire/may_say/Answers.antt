use Rattle.std.proofs.Common.{◌∙◌, sym, ap, length, List}
use Rattle.mj_deeds.specs.declared.deed.Deed.{Deed}
use Rattle.mj_umpire.proofs.Games.{game}
use Rattle.mj_umpire.proofs.Readers.{asked-here, asked-away, asked-none, asked-may}
use Rattle.mj_umpire.proofs.umpire.Umpire.may_say.Goals as goal

pub returns-then-is_present-clause-asked : goal.returns-then-is_present-clause-asked
returns-then-is_present-clause-asked g c =
    rw (← c.self.view_is)
    (asked-here _ _ c.self.inside.state c.args.seat c.in-Some.held.now _ _ c.self.invariant c.in-Some.ensures (sym c.is_present.ensures
    ∙ c.if-is_present.true) c.due.ensures (ap (λ (ds : List Deed). length ds) c.deeds.ensures))

pub returns-then-is_present-clause-by_author : goal.returns-then-is_present-clause-by_author
returns-then-is_present-clause-by_author g c =
    rw (← c.self.view_is)
    (asked-may (game c.self.inside.setting c.self.inside.entries.items) c.args.seat _
    (asked-here _ _ c.self.inside.state c.args.seat c.in-Some.held.now _ _ c.self.invariant c.in-Some.ensures (sym c.is_present.ensures
    ∙ c.if-is_present.true) c.due.ensures (ap (λ (ds : List Deed). length ds) c.deeds.ensures)))

pub returns-else-is_present-clause-asked : goal.returns-else-is_present-clause-asked
returns-else-is_present-clause-asked g c =
    rw (← c.self.view_is) (c.if-is_present.false ∙ asked-away _ _ c.self.inside.state c.args.seat c.in-Some.held.now c.self.invariant
    c.in-Some.ensures (sym c.is_present.ensures ∙ c.if-is_present.false))

pub returns-in-None-clause-asked : goal.returns-in-None-clause-asked
returns-in-None-clause-asked g c = rw (← c.self.view_is) (asked-none _ _ c.self.inside.state c.args.seat c.self.invariant c.in-None.ensures)
