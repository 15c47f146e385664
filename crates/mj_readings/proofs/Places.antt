-- The numbers below a bound that pass a test, one after another.
use Rattle.std.proofs.Common.{ℕ, ◌≡◌, ◌<◌, ◌+◌, ◌++◌, ◌∷◌, [], Bool, true, false, cond, List, length, refl, sym, ◌∙◌, ap, arith, zero, suc, add-zero, zero-add, add-one, Some}
use Rattle.std.specs.List.{filter, range_with_len, slice_get}
use Rattle.std.proofs.lemmas.List.{length-append}
use Rattle.std.proofs.lemmas.List.Elements.{filter-append}
use Rattle.mj_readings.specs.declared.reading.Set.{Set}
use Rattle.mj_readings.specs.Readings.{names_winning}
use Rattle.mj_readings.specs.Inner.WinningWays.{win_places}

range_push : (from n : ℕ) → range_with_len from (suc n) ≡ range_with_len from n ++ (from + n) ∷ []
range_push from zero = ap (λ k. k ∷ []) (sym (add-zero from))
range_push from (suc n) = ap (λ xs. from ∷ xs) (range_push (from + 1) n ∙ ap (λ k. range_with_len (from + 1) n ++ k ∷ []) (omega arith))

-- How many below the next number pass.
pub passed_on : (p : ℕ → Bool) (n : ℕ) → filter p (range_with_len 0 (n + 1)) ≡ filter p (range_with_len 0 n) ++ cond (p n) (n ∷ []) []
passed_on p n =
    ap (λ k. filter p (range_with_len 0 k)) (add-one n)
    ∙ ap (filter p) (range_push 0 n ∙ ap (λ k. range_with_len 0 n ++ k ∷ []) (zero-add n))
    ∙ filter-append p (range_with_len 0 n) (n ∷ [])

pub passed-more : (p : ℕ → Bool) (n : ℕ) → length (filter p (range_with_len 0 (n + 1))) ≡ length (filter p (range_with_len 0 n)) + cond (p n) 1 0
passed-more p n =
    ap length (passed_on p n)
    ∙ length-append (filter p (range_with_len 0 n)) (cond (p n) (n ∷ []) [])
    ∙ ap (λ k. length (filter p (range_with_len 0 n)) + k) (one (p n))
  where
    one : (b : Bool) → length (cond b (n ∷ []) []) ≡ cond b 1 0
    one true = refl
    one false = refl

found_from : (p : ℕ → Bool) (from n k place : ℕ) → k < n → place ≡ length (filter p (range_with_len from k)) → p (from + k) ≡ true →
    slice_get (filter p (range_with_len from n)) place ≡ Some (from + k)
found_from p from zero k place inside is passes = absurd (omega arith)
found_from p from (suc n) zero place inside is passes =
    let here : p from ≡ true = ap p (sym (add-zero from)) ∙ passes in
    rw here (rw is (ap Some (sym (add-zero from))))
found_from p from (suc n) (suc k) place inside is passes =
    let same : from + suc k ≡ from + 1 + k = omega arith in
    split (p from) place is (λ before count. found_from p (from + 1) n k before (omega (arith, inside)) count (ap p (sym same) ∙ passes) ∙ ap Some (sym same))
  where
    split : (b : Bool) (place : ℕ) → place ≡ length (cond b (from ∷ filter p (range_with_len (from + 1) k)) (filter p (range_with_len (from + 1) k))) →
        ((before : ℕ) → before ≡ length (filter p (range_with_len (from + 1) k)) → slice_get (filter p (range_with_len (from + 1) n)) before ≡ Some (from + suc k)) →
        slice_get (cond b (from ∷ filter p (range_with_len (from + 1) n)) (filter p (range_with_len (from + 1) n))) place ≡ Some (from + suc k)
    split true zero is rest = absurd (omega (arith, is))
    split true (suc before) is rest = rest before (omega (arith, is))
    split false place is rest = rest place is

-- The number that passes after so many others.
pub found_at : (p : ℕ → Bool) (n k place : ℕ) → k < n → place ≡ length (filter p (range_with_len 0 k)) → p k ≡ true →
    slice_get (filter p (range_with_len 0 n)) place ≡ Some k
found_at p n k place inside is passes = found_from p 0 n k place inside is (ap p (zero-add k) ∙ passes) ∙ ap Some (zero-add k)

-- After the last place.
pub win_places-end : (sets : List Set) (pair winning index rest win : ℕ) → win ≡ 5 →
    index ≡ length (filter (names_winning sets pair winning) (range_with_len 0 win)) + rest → index ≡ length (win_places sets pair winning) + rest
unfolding win_places
win_places-end sets pair winning index rest win last is =
    is ∙ ap (λ n. length (filter (names_winning sets pair winning) (range_with_len 0 n)) + rest) last
