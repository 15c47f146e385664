-- Hands that no tile completes.
use Rattle.std.proofs.Common.{◌≡◌, ℕ, ◌+◌, ◌<◌, ◌≤◌, eqb, cond, Bool, true, false, List, [], ◌∷◌, length, get_or, replicate, sum, refl, sym, subst, ap, ◌∙◌, inl, inr, arith}
use Rattle.std.proofs.lemmas.Bool.{cases_lt, cases_eq, eq-eqb, ne_eqb}
use Rattle.std.proofs.lemmas.List.{length-set, get_or_past}
use Rattle.mj_tiles.specs.Counts.{IsCounts}
use Rattle.mj_readings.specs.Tests.{complete, one_more}
use Rattle.mj_readings.proofs.Laws.{complete-are}
use Rattle.mj_suits.specs.Targets.{missing}
use Rattle.mj_suits.specs.Tables.{IsLeast}
use Rattle.mj_shanten.specs.Room.{IsWithinRoom}
use Rattle.mj_shanten.specs.Shanten.{IsGoal}
use Rattle.mj_shanten.proofs.Least.{fewer_held, one_nearer}
use Rattle.mj_shanten.proofs.Path.{one_more_at}
use Rattle.mj_shanten.proofs.Sums.{sum_missing, sum_complete}
use Rattle.mj_memory.specs.Far.{IsFar}

-- no tile is far from each complete hand
pub none_is_far : (counts : List ℕ) → counts ≡ replicate 34 0 → IsFar counts counts 0
none_is_far counts is = record {
  within = λ k low. omega arith;
  far = λ target goal.
      (let a = sum_missing target counts in
      let b = sum_complete target 0 goal.complete in
      let c : sum counts ≡ 0 = ap sum is in
      omega arith);
}

itself : (t : List ℕ) → missing t t ≡ 0
itself [] = refl
itself (w ∷ t) = (let r = itself t in omega arith)

-- a complete hand misses nothing of itself
pub complete_misses : (counts room : List ℕ) (melds : ℕ) → IsCounts counts → IsWithinRoom counts room → complete counts melds ≡ true → (number : ℕ)
    → IsLeast counts (IsGoal room melds) number → number ≡ 0
complete_misses counts room melds are within test number least =
    let a = least.least counts record { are_counts = are; complete = complete-are counts melds are test; within = within } in
    let b = itself counts in
    omega arith

-- no tile completes a hand whose tiles are among those of a far one
pub not_completed : (counts room held : List ℕ) (melds kind : ℕ) → IsFar counts room melds → length counts ≡ 34 → length held ≡ 34 → ((k : ℕ) → get_or room k 0 ≤ 4)
    → ((k : ℕ) → k < 34 → get_or held k 0 ≤ get_or counts k 0) → kind < 34 → get_or held kind 0 < get_or room kind 0 → complete (one_more held kind) melds ≡ false
not_completed counts room held melds kind is size held_size of_four each low more = by_test (complete (one_more held kind) melds) refl
  where
    wide : length (one_more held kind) ≡ 34
    wide = length-set held kind (get_or held kind 0 + 1) ∙ held_size

    at : (k : ℕ) → get_or (one_more held kind) k 0 ≡ get_or held k 0 + cond (eqb kind k) 1 0
    at k = one_more_at held kind k (omega arith)

    within : IsWithinRoom (one_more held kind) room
    within k small = (let a = at k in let h = each k small in let w = is.within k small in
        elim (cases_eq kind k) [
          | inl same ↦ (let e : ◌≡◌ {A = ℕ} (cond (eqb kind k) 1 0) 1 = ap (λ b. cond b 1 0) (eq-eqb kind k same) in
              let f : get_or held k 0 < get_or room k 0 = subst (λ j. get_or held j 0 < get_or room j 0) same more in omega arith)
          | inr other ↦ (let e : ◌≡◌ {A = ℕ} (cond (eqb kind k) 1 0) 0 = ap (λ b. cond b 1 0) (ne_eqb kind k other) in omega arith)
        ])

    are : IsCounts (one_more held kind)
    are = record {
      size = wide;
      within = λ k. elim (cases_lt k 34) [
        | inl small ↦ (let a = within k small in let b = of_four k in omega arith)
        | inr past ↦ (let w = wide in let a : get_or (one_more held kind) k 0 ≡ 0 = get_or_past (one_more held kind) k 0 (omega arith) in omega arith)
      ];
    }

    never : complete (one_more held kind) melds ≡ true → ⊥
    never test =
        let a = is.far (one_more held kind) record { are_counts = are; complete = complete-are (one_more held kind) melds are test; within = within } in
        let b : missing (one_more held kind) counts ≤ missing (one_more held kind) held =
        fewer_held (one_more held kind) counts held (size ∙ sym held_size) (λ k inside. each k (omega arith)) in
        let c : missing (one_more held kind) held ≤ missing (one_more held kind) (one_more held kind) + 1 =
        one_nearer kind (one_more held kind) held (one_more held kind) (held_size ∙ sym wide) (λ k inside. (let d = at k in omega arith)) in
        let d = itself (one_more held kind) in
        omega arith

    by_test : (b : Bool) → complete (one_more held kind) melds ≡ b → b ≡ false
    by_test true e = absurd (never e)
    by_test false e = refl

-- the numbers as they are read
pub excluded : (counts room held counted read left : List ℕ) (melds same kind place : ℕ) → IsFar counts room same → melds ≡ same → read ≡ held → length held ≡ 34 → counted ≡ counts
    → length counts ≡ 34 → left ≡ room → ((k : ℕ) → get_or room k 0 ≤ 4) → place ≡ kind → place < 34 → get_or read place 0 < get_or left place 0
    → ((k : ℕ) → k < 34 → get_or read k 0 ≤ get_or counted k 0)
    → complete (one_more held kind) melds ≡ false
excluded counts room held counted read left melds same kind place is melds_are read_is held_size counted_is size left_is of_four at low more each =
    ap (λ m. complete (one_more held kind) m) melds_are
    ∙ not_completed counts room held same kind is size held_size of_four
    (λ k small. (let e = each k small in let a = ap (λ (xs : List ℕ). get_or xs k 0) read_is in let b = ap (λ (xs : List ℕ). get_or xs k 0) counted_is in omega arith)) (omega arith)
    (subst (λ k. get_or held k 0 < get_or room k 0) at
    (let a = ap (λ (xs : List ℕ). get_or xs place 0) read_is in let b = ap (λ (xs : List ℕ). get_or xs place 0) left_is in omega arith))
