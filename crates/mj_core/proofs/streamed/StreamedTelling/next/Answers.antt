use Rattle.std.proofs.Common.{[], ◌∷◌, ◌++◌, ◌∙◌, ap}
use Rattle.mj_table.specs.Plays.{Play}
use Rattle.mj_core.proofs.Spare.{can_catch_up, told_and_turned}
use Rattle.mj_core.proofs.streamed.StreamedTelling.next.Goals as goal

pub catch_up-requires : goal.catch_up-requires
catch_up-requires c =
    rw (c.deref_mut.ensures.value, c.deref.ensures)
    (can_catch_up c.args.walls.now c.self.inside.is_behind c.self.inside.spare.value c.self.inside.table.value c.requires.some (rw (← c.self.view_is) at c.requires.whole)
    c.self.invariant.follows (rw (← c.self.view_is) at c.requires.played))

pub invariant_of-self-2 : goal.invariant_of-self-2
invariant_of-self-2 c =
    let caught = c.deref_mut-2.ensures.value ∙ c.in_ok-catch_up.ensures ∙ c.deref.ensures in
    told_and_turned c.self.inside.table.value _ _ _ c.in_ok-next.next _ _ c.self.invariant.lines
    (c.in_ok-next.ensures.pushed ∙ ap (λ (p : Play). record { rules = p.rules; deeds = p.deeds ++ c.in_ok-next.next ∷ [] }) caught)
    (rw c.deref-2.ensures at c.in_ok-deed.ensures.ok) (ap (λ b. b.value) c.swap.ensures.x_after) (ap (λ b. b.value) c.swap.ensures.y_after)
