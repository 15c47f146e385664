-- Tests of the numbers of a range, and the numbers below the next one.
use Rattle.std.proofs.Common.{ℕ, ◌≡◌, ◌<◌, ◌≤◌, ◌+◌, ◌⊎◌, inl, inr, Bool, true, false, length, get_or, refl, sym, ◌∙◌, ap, arith, zero, suc, add-zero, zero-add}
use Rattle.std.specs.List.{list_all, list_any, range_with_len}
use Rattle.std.proofs.lemmas.Bool.{cases_lt, false≢true, or_left, or_right, or_from}
use Rattle.std.proofs.lemmas.List.Folds.{list_all_at}
use Rattle.std.proofs.lemmas.List.FromFn.{length-range_with_len, get_or-range_with_len}

-- A number below the next one is below this one, or is it.
pub below_or_here : (k n : ℕ) → k < n + 1 → (k < n) ⊎ (k ≡ n)
below_or_here k n inside = split (cases_lt k n)
  where
    split : (k < n) ⊎ (n ≤ k) → (k < n) ⊎ (k ≡ n)
    split (inl below) = inl below
    split (inr above) = inr (omega arith)

-- All numbers of a range pass where each does.
pub all_in : (p : ℕ → Bool) (from n : ℕ) → ((k : ℕ) → from ≤ k → k < from + n → p k ≡ true) → list_all p (range_with_len from n) ≡ true
all_in p from zero each = refl
all_in p from (suc n) each =
    rw (each from (omega arith) (omega arith)) (all_in p (from + 1) n (λ k above below. each k (omega arith) (omega arith)))

-- They don't where one of the first so many fails.
pub one_fails : (p : ℕ → Bool) (n k : ℕ) → k < n → p k ≡ false → list_all p (range_with_len 0 n) ≡ false
one_fails p n k within fails =
    let inside : k < length (range_with_len 0 n) = rw length-range_with_len within in
    let read : get_or (range_with_len 0 n) k 0 ≡ k = get_or-range_with_len 0 n k 0 within ∙ zero-add k in
    list_all_at p (range_with_len 0 n) k 0 inside (ap p read ∙ fails)

-- A test that passes at every number below n passes at each.
pub passes : (p : ℕ → Bool) (n k : ℕ) → list_all p (range_with_len 0 n) ≡ true → k < n → p k ≡ true
passes p n k all within = passes_at p n k all within (p k) refl
  where
    passes_at : (p : ℕ → Bool) (n k : ℕ) → list_all p (range_with_len 0 n) ≡ true → k < n → (b : Bool) → p k ≡ b → p k ≡ true
    passes_at p n k all within true is = is
    passes_at p n k all within false is = absurd (false≢true (sym (one_fails p n k within is) ∙ all))

-- Some number of a range passes where one does.
pub any_in : (p : ℕ → Bool) (from n k : ℕ) → k < n → p (from + k) ≡ true → list_any p (range_with_len from n) ≡ true
any_in p from zero k inside passes = absurd (omega arith)
any_in p from (suc n) zero inside passes =
    or_left (p from) (list_any p (range_with_len (from + 1) n)) (ap p (sym (add-zero from)) ∙ passes)
any_in p from (suc n) (suc k) inside passes =
    let same : from + suc k ≡ from + 1 + k = omega arith in
    or_right (p from) (list_any p (range_with_len (from + 1) n)) (any_in p (from + 1) n k (omega (arith, inside)) (ap p (sym same) ∙ passes))

-- None passes where each fails.
pub none_in : (p : ℕ → Bool) (from n : ℕ) → ((k : ℕ) → k < n → p (from + k) ≡ false) → list_any p (range_with_len from n) ≡ false
none_in p from zero fails = refl
none_in p from (suc n) fails =
    or_from (p from) (list_any p (range_with_len (from + 1) n)) (ap p (sym (add-zero from)) ∙ fails 0 (omega arith))
    (none_in p (from + 1) n (λ k inside. let same : from + suc k ≡ from + 1 + k = omega arith in ap p (sym same) ∙ fails (suc k) (omega (arith, inside))))
