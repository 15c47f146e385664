-- The rows of a set in order, one row further.
use Rattle.std.proofs.Common.{◌≡◌, ℕ, zero, suc, ◌+◌, ◌≤◌, Bool, true, false, cond, List, [], ◌∷◌, ◌++◌, refl, ap, sym, ◌∙◌, arith, add-zero, zero-add, add-one, append_assoc}
use Rattle.std.specs.Prelude.{map, filter}
use Rattle.std.specs.List.{range_with_len}
use Rattle.std.proofs.lemmas.List.{map-append}
use Rattle.std.proofs.lemmas.List.Elements.{filter-append}
use Rattle.mj_yaku.specs.Rows.{has_row}
use Rattle.mj_score.specs.Scores.{rows_of}

range_push : (from n : ℕ) → range_with_len from (suc n) ≡ range_with_len from n ++ (from + n) ∷ []
range_push from zero = ap (λ k. k ∷ []) (sym (add-zero from))
range_push from (suc n) = ap (λ xs. from ∷ xs) (range_push (from + 1) n ∙ ap (λ k. range_with_len (from + 1) n ++ k ∷ []) (omega arith))

-- What the numbers below the next one that pass give.
pub rows_more : {A : Type 0} (p : ℕ → Bool) (g : ℕ → A) (n : ℕ) → map g (filter p (range_with_len 0 (n + 1))) ≡ map g (filter p (range_with_len 0 n)) ++ cond (p n) (g n ∷ []) []
rows_more {A = A} p g n =
    ap (λ k. map g (filter p (range_with_len 0 k))) (add-one n)
    ∙ ap (λ xs. map g (filter p xs)) (range_push 0 n ∙ ap (λ k. range_with_len 0 n ++ k ∷ []) (zero-add n))
    ∙ ap (map g) (filter-append p (range_with_len 0 n) (n ∷ []))
    ∙ map-append g (filter p (range_with_len 0 n)) (filter p (n ∷ []))
    ∙ ap (λ (ys : List A). map g (filter p (range_with_len 0 n)) ++ ys) (one (p n))
  where
    one : (b : Bool) → map g (cond b (n ∷ []) []) ≡ cond b (g n ∷ []) []
    one true = refl
    one false = refl

-- After others.
pub row_pushed : {A : Type 0} (p : ℕ → Bool) (g : ℕ → A) (n : ℕ) (old rows new : List A) → rows ≡ old ++ map g (filter p (range_with_len 0 n)) → new ≡ rows ++ cond (p n) (g n ∷ []) [] →
    new ≡ old ++ map g (filter p (range_with_len 0 (n + 1)))
row_pushed {A = A} p g n old rows new e k =
    k ∙ ap (λ (xs : List A). xs ++ cond (p n) (g n ∷ []) []) e ∙ append_assoc old (map g (filter p (range_with_len 0 n))) (cond (p n) (g n ∷ []) [])
    ∙ ap (λ (xs : List A). old ++ xs) (sym (rows_more p g n))

-- All rows of a set.
pub all_pushed : {A : Type 0} (set : ℕ) (g : ℕ → A) (n : ℕ) (old rows : List A) → rows ≡ old ++ map g (filter (has_row set) (range_with_len 0 n)) → n ≤ 45 → 45 ≤ n → rows ≡ old ++ map g (rows_of set)
unfolding rows_of
all_pushed {A = A} set g n old rows e h k = e ∙ ap (λ m. old ++ map g (filter (has_row set) (range_with_len 0 m))) (same n h k)
  where
    same : (n : ℕ) → n ≤ 45 → 45 ≤ n → n ≡ 45
    same n h k = omega arith
