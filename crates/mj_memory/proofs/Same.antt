-- Lists of nine numbers that are the same.
use Rattle.std.proofs.Common.{◌≡◌, ℕ, ◌+◌, ◌<◌, ◌≤◌, ◌&&◌, Bool, true, eqb, leb, List, length, get_or, sym, subst, ap, ◌∙◌, inl, inr, arith}
use Rattle.std.proofs.lemmas.Bool.{cases_eq, and_parts, eqb-true, leb-true}
use Rattle.std.proofs.lemmas.List.{ext_get_or}

pub same_more : (some others : List ℕ) (n : ℕ) (same : Bool) → (same ≡ true → (k : ℕ) → k < n → get_or some k 0 ≡ get_or others k 0)
    → (same && eqb (get_or some n 0) (get_or others n 0)) ≡ true → (k : ℕ) → k < n + 1 → get_or some k 0 ≡ get_or others k 0
same_more some others n same before all k few =
    let both = and_parts same (eqb (get_or some n 0) (get_or others n 0)) all in
    elim (cases_eq k n) [
      | inl here ↦ ap (λ j. get_or some j 0) here ∙ eqb-true _ _ both.1 ∙ ap (λ j. get_or others j 0) (sym here)
      | inr other ↦ before both.0 k (omega arith)
    ]

pub all_same : (some others : List ℕ) (n : ℕ) → length some ≡ 9 → length others ≡ 9 → 9 ≤ n → ((k : ℕ) → k < n → get_or some k 0 ≡ get_or others k 0) → some ≡ others
all_same some others n size same_size last each = ext_get_or 0 some others (size ∙ sym same_size) (λ k inside. each k (omega arith))

pub among_more : (some others : List ℕ) (n : ℕ) (among : Bool) → (among ≡ true → (k : ℕ) → k < n → get_or some k 0 ≤ get_or others k 0)
    → (among && leb (get_or some n 0) (get_or others n 0)) ≡ true → (k : ℕ) → k < n + 1 → get_or some k 0 ≤ get_or others k 0
among_more some others n among before all k few =
    let both = and_parts among (leb (get_or some n 0) (get_or others n 0)) all in
    elim (cases_eq k n) [
      | inl here ↦ subst (λ j. get_or some j 0 ≤ get_or others j 0) (sym here) (leb-true _ _ both.1)
      | inr other ↦ before both.0 k (omega arith)
    ]
