-- The nine numbers of a suit, read one by one.
use Rattle.std.proofs.Common.{◌≡◌, ◌+◌, ◌-◌, ◌<◌, ◌≤◌, ℕ, List, [], ◌∷◌, length, get_or, set, take, drop, arith, sym, ap, ◌∙◌, get_or-set_other, get_or-set_same, inl, inr}
use Rattle.std.proofs.lemmas.List.{ext_get_or, length-take-le, length-drop, get_or-take, get_or-drop, get_or-append_right}
use Rattle.std.proofs.lemmas.Bool.{cases_eq, cases_lt}
use Rattle.mj_lists.proofs.Fronts.{zero_at}
use Rattle.mj_shanten.specs.Suits.{with_two}
use Rattle.mj_shanten.proofs.Goal.{wide_low, wide_size}

pub read_more : (nine numbers : List ℕ) (from n x : ℕ) → n < length nine → x ≡ get_or numbers (from + n) 0 → ((k : ℕ) → k < n → get_or nine k 0 ≡ get_or numbers (from + k) 0)
    → (k : ℕ) → k < n + 1 → get_or (set nine n x) k 0 ≡ get_or numbers (from + k) 0
read_more nine numbers from n x inside is before k few = elim (cases_eq k n) [
  | inl here ↦ ap (λ j. get_or (set nine n x) j 0) here ∙ get_or-set_same nine n x 0 inside ∙ is ∙ ap (λ j. get_or numbers (from + j) 0) (sym here)
  | inr other ↦ get_or-set_other nine n k x 0 other ∙ before k (omega arith)
]

pub rest_more : (nine : List ℕ) (n x : ℕ) → ((k : ℕ) → n ≤ k → get_or nine k 0 ≡ 0) → (k : ℕ) → n + 1 ≤ k → get_or (set nine n x) k 0 ≡ 0
rest_more nine n x rest k past = get_or-set_other nine n k x 0 (λ same. omega arith) ∙ rest k (omega arith)

all_read : (nine wide : List ℕ) (from : ℕ) → length nine ≡ 9 → length wide ≡ 36 → from ≤ 27 → ((k : ℕ) → k < 9 → get_or nine k 0 ≡ get_or wide (from + k) 0) → nine ≡ take 9 (drop from wide)
all_read nine wide from size wide_is far read =
    ext_get_or 0 nine (take 9 (drop from wide)) (size ∙ sym long)
    (λ k inside. read k (omega arith) ∙ sym (get_or-drop from wide k 0) ∙ sym (get_or-take 9 (drop from wide) k 0 (omega arith)))
  where
    long : length (take 9 (drop from wide)) ≡ 9
    long = length-take-le 9 (drop from wide) (let d = length-drop from wide in omega arith)

pub nine_read : (nine numbers : List ℕ) (from n : ℕ) → length nine ≡ 9 → length numbers ≡ 34 → from ≤ 18 → 9 ≤ n → ((k : ℕ) → k < n → get_or nine k 0 ≡ get_or numbers (from + k) 0)
    → nine ≡ take 9 (drop from (with_two numbers))
nine_read nine numbers from n size numbers_size far last read =
    all_read nine (with_two numbers) from size (wide_size numbers numbers_size) (omega arith) (λ k few. read k (omega arith) ∙ sym (wide_low numbers (from + k) numbers_size (omega arith)))

pub seven_read : (nine numbers : List ℕ) (n : ℕ) → length nine ≡ 9 → length numbers ≡ 34 → n ≡ 7 → ((k : ℕ) → k < n → get_or nine k 0 ≡ get_or numbers (27 + k) 0)
    → ((k : ℕ) → n ≤ k → get_or nine k 0 ≡ 0) → nine ≡ take 9 (drop 27 (with_two numbers))
seven_read nine numbers n size numbers_size last read rest =
    all_read nine (with_two numbers) 27 size (wide_size numbers numbers_size) (omega arith)
    (λ k few. elim (cases_lt k 7) [
      | inl low ↦ read k (omega arith) ∙ sym (wide_low numbers (27 + k) numbers_size (omega arith))
      | inr past ↦ rest k (omega arith) ∙ sym (get_or-append_right numbers (0 ∷ 0 ∷ []) 34 (27 + k) 0 numbers_size (omega arith) ∙ zero_at 2 (27 + k - 34))
    ])
