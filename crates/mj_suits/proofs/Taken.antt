-- What is left where sets and pairs are taken.
use Rattle.std.proofs.Common.{◌≡◌, ℕ, ◌+◌, ◌-◌, ◌<◌, ◌≤◌, leb, ◌&&◌, cond, List, sym, ap, ap₂, ◌∙◌, inl, inr, arith}
use Rattle.std.proofs.lemmas.Bool.{cases_lt, le-leb, lt-leb, cases_Bool}
use Rattle.mj_suits.specs.Rows.{lane, Holds, taken}

-- there are so many
pub taken_in : (a b : ℕ) (left : ℕ → ℕ → ℕ) (s p : ℕ) → a ≤ s → b ≤ p → taken a b left s p ≡ left (s - a) (p - b)
taken_in a b left s p sets pairs = ap₂ (λ u v. cond (u && v) (left (s - a) (p - b)) 0) (le-leb a s sets) (le-leb b p pairs)

-- nothing is taken
pub taken_none : (left : ℕ → ℕ → ℕ) (s p : ℕ) → taken 0 0 left s p ≡ left s p
taken_none left s p =
    let sets : s - 0 ≡ s = omega arith in
    let pairs : p - 0 ≡ p = omega arith in
    taken_in 0 0 left s p (omega arith) (omega arith) ∙ ap₂ left sets pairs

-- there are not so many sets
pub taken_few_sets : (a b : ℕ) (left : ℕ → ℕ → ℕ) (s p : ℕ) → s < a → taken a b left s p ≡ 0
taken_few_sets a b left s p sets = ap (λ u. cond (u && leb b p) (left (s - a) (p - b)) 0) (lt-leb a s sets)

-- there are not so many pairs
pub taken_few_pairs : (a b : ℕ) (left : ℕ → ℕ → ℕ) (s p : ℕ) → p < b → taken a b left s p ≡ 0
taken_few_pairs a b left s p pairs = elim (cases_Bool (leb a s)) [
  | inl t ↦ ap₂ (λ u v. cond (u && v) (left (s - a) (p - b)) 0) t (lt-leb b p pairs)
  | inr f ↦ ap (λ u. cond (u && leb b p) (left (s - a) (p - b)) 0) f
]

-- what is left of what a row holds
pub taken_held : (row : List ℕ) (left : ℕ → ℕ → ℕ) (a b s p : ℕ) → Holds row left → s < 8 → p < 2 → taken a b (lane row) s p ≡ taken a b left s p
taken_held row left a b s p held few one = elim (cases_lt s a) [
  | inl sets ↦ taken_few_sets a b (lane row) s p sets ∙ sym (taken_few_sets a b left s p sets)
  | inr sets ↦ elim (cases_lt p b) [
    | inl pairs ↦ taken_few_pairs a b (lane row) s p pairs ∙ sym (taken_few_pairs a b left s p pairs)
    | inr pairs ↦ taken_in a b (lane row) s p sets pairs ∙ held.at (s - a) (p - b) (omega arith) (omega arith) ∙ sym (taken_in a b left s p sets pairs)
  ]
]

-- taken twice
pub taken_twice : (a b c d : ℕ) (left : ℕ → ℕ → ℕ) (s p : ℕ) → taken a b (taken c d left) s p ≡ taken (a + c) (b + d) left s p
taken_twice a b c d left s p = elim (cases_lt s (a + c)) [
  | inl sets ↦ elim (cases_lt s a) [
    | inl first ↦ taken_few_sets a b (taken c d left) s p first ∙ sym (taken_few_sets (a + c) (b + d) left s p sets)
    | inr first ↦ elim (cases_lt p b) [
      | inl pairs ↦ taken_few_pairs a b (taken c d left) s p pairs ∙ sym (taken_few_sets (a + c) (b + d) left s p sets)
      | inr pairs ↦ taken_in a b (taken c d left) s p first pairs ∙ taken_few_sets c d left (s - a) (p - b) (omega arith) ∙ sym (taken_few_sets (a + c) (b + d) left s p sets)
    ]
  ]
  | inr sets ↦ elim (cases_lt p (b + d)) [
    | inl pairs ↦ elim (cases_lt p b) [
      | inl first ↦ taken_few_pairs a b (taken c d left) s p first ∙ sym (taken_few_pairs (a + c) (b + d) left s p pairs)
      | inr first ↦ taken_in a b (taken c d left) s p (omega arith) first ∙ taken_few_pairs c d left (s - a) (p - b) (omega arith) ∙ sym (taken_few_pairs (a + c) (b + d) left s p pairs)
    ]
    | inr pairs ↦
        let sets_later : s - a - c ≡ s - (a + c) = omega arith in
        let pairs_later : p - b - d ≡ p - (b + d) = omega arith in
        taken_in a b (taken c d left) s p (omega arith) (omega arith) ∙ taken_in c d left (s - a) (p - b) (omega arith) (omega arith)
        ∙ ap₂ left sets_later pairs_later ∙ sym (taken_in (a + c) (b + d) left s p sets pairs)
  ]
]

-- taken from a row of which was taken
pub taken_again : (row inner : List ℕ) (a b c d : ℕ) → Holds inner (taken c d (lane row)) → (s p : ℕ) → s < 8 → p < 2 → taken a b (lane inner) s p ≡ taken (a + c) (b + d) (lane row) s p
taken_again row inner a b c d held s p few one = taken_held inner (taken c d (lane row)) a b s p held few one ∙ taken_twice a b c d (lane row) s p
