use Rattle.std.proofs.Common.{[], ◌∷◌, ◌++◌, ◌∙◌, ap}
use Rattle.mj_table.specs.Plays.{Play}
use Rattle.mj_core.proofs.Spare.{told_and_turned}
use Rattle.mj_core.proofs.streamed.StreamedTelling.push.Goals as goal

pub invariant_of-self-2 : goal.invariant_of-self-2
invariant_of-self-2 c =
    let caught = c.deref_mut-2.ensures.value ∙ c.in_ok-copy_over.ensures.ok ∙ c.deref.ensures in
    told_and_turned c.self.inside.table.value _ _ _ c.args.deed.now _ _ c.self.invariant.lines
    (c.in_ok-push.ensures.ok ∙ ap (λ (p : Play). record { rules = p.rules; deeds = p.deeds ++ c.args.deed.now ∷ [] }) caught)
    (rw c.deref-2.ensures at c.in_ok-tell.ensures.ok) (ap (λ b. b.value) c.swap.ensures.x_after) (ap (λ b. b.value) c.swap.ensures.y_after)
