use Rattle.std.proofs.Common.{arith, refl, ◌∙◌}
use Rattle.std.proofs.Common.{rules}
use Rattle.std.proofs.lemmas.Grind.{common_steps}
use Rattle.mj_suits.proofs.Lists.{OnOk-then}
use Rattle.mj_suits.proofs.Tiles.{pair_parts}
use Rattle.mj_suits.proofs.Steps.{set_step, set_skipped, pair_step, pair_skipped, number_left, number_done}
use Rattle.mj_suits.proofs.Whole.{split_found}
use Rattle.mj_suits.proofs.partitioning.+search.Goals as goal
use Rattle.mj_suits.proofs.partitioning.+search.Goals.{pair_at-else-is_none-via-then-is_none+else-rest-low-ge2, pair_at-else-is_none-via-else-is_none}

pub next_number-returns-then-rest-low-gt0-clause-found : goal.next_number-returns-then-rest-low-gt0-clause-found
next_number-returns-then-rest-low-gt0-clause-found t c = number_left _ _ _ _ _ _ (omega arith) (omega arith)

pub next_number-returns-then-low-eq8-clause-found : goal.next_number-returns-then-low-eq8-clause-found
next_number-returns-then-low-eq8-clause-found t c =
    rw c.in_ok-push.ensures.items
    (split_found _ _ _ _ _ _ _ c.if-low-eq8.true (omega arith) (c.from_vec-sets.ensures ∙ c.in_ok-items.ensures.items ∙ c.deref.ensures.value) refl)

pub next_number-returns-clause-found : goal.next_number-returns-clause-found
next_number-returns-clause-found t c =
    OnOk-then _ _ _ (λ found. number_done _ _ _ _ _ _ _ _ (omega arith) (omega arith) (omega arith) found) c.sets_from.ensures.found

pub pair_at-returns-then-rest-low-ge2-clause-found : goal.pair_at-returns-then-rest-low-ge2-clause-found
pair_at-returns-then-rest-low-ge2-clause-found t c =
    OnOk-then c.next_number-then-rest-low-ge2.result _ _
    (λ found. pair_step _ _ _ _ _ _ _ _ _ _ (omega arith) (search rules) c.in_ok-next_number.ensures.kept
    (λ n high. pair_parts _ _ _ n (omega arith) (omega arith) refl) c.in_ok-next_number.ensures.found found)
    c.next_number-then-rest-low-ge2.ensures.found

pub pair_at-returns-clause-found : goal.pair_at-returns-clause-found
pair_at-returns-clause-found t c =
    elim c.else-is_none.branch [
      | pair_at-else-is_none-via-then-is_none+else-rest-low-ge2 w ↦ OnOk-then _ _ _ (λ found. pair_skipped _ _ _ _ _ _ _ (omega arith) (λ none. omega arith) found) c.next_number-2.ensures.found
      | pair_at-else-is_none-via-else-is_none w ↦ OnOk-then _ _ _ (λ found. pair_skipped _ _ _ _ _ _ _ (omega arith) (λ none. absurd (search rules)) found) c.next_number-2.ensures.found
    ]

pub sets_from-returns-in_ok-sets_from-in-Some-clause-found : goal.sets_from-returns-in_ok-sets_from-in-Some-clause-found
sets_from-returns-in_ok-sets_from-in-Some-clause-found t c =
    OnOk-then c.after_set.result _ _
    (λ found. set_step _ _ _ _ _ _ _ _ _ _ _ c.in-Some.ensures c.in_ok-push-in-Some.ensures.items (grind (arith, common_steps)) c.in_ok-sets_from-in-Some.ensures.found found)
    c.after_set.ensures.found

pub sets_from-returns-in-None-clause-found : goal.sets_from-returns-in-None-clause-found
sets_from-returns-in-None-clause-found t c =
    OnOk-then c.after_set-in-None.result _ _ (λ found. set_skipped _ _ _ _ _ _ _ c.in-None.ensures found) c.after_set-in-None.ensures.found
