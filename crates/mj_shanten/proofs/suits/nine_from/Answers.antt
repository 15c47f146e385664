use Rattle.std.proofs.Common.{◌≡◌, ◌+◌, ◌<◌, ◌≤◌, ℕ, List, length, get_or, set, take, drop, arith, sym, ap, ◌∙◌, get_or-set_other, get_or-set_same, inl, inr}
use Rattle.std.proofs.lemmas.List.{ext_get_or, length-take-le, length-drop, length-set, get_or-take, get_or-drop}
use Rattle.std.proofs.lemmas.Bool.{cases_eq}
use Rattle.mj_shanten.proofs.suits.nine_from.Goals as goal

read_more : (nine numbers : List ℕ) (from n : ℕ) → n < length nine → ((k : ℕ) → k < n → get_or nine k 0 ≡ get_or numbers (from + k) 0)
    → (k : ℕ) → k < n + 1 → get_or (set nine n (get_or numbers (from + n) 0)) k 0 ≡ get_or numbers (from + k) 0
read_more nine numbers from n inside before k few = elim (cases_eq k n) [
  | inl here ↦ ap (λ j. get_or (set nine n (get_or numbers (from + n) 0)) j 0) here ∙ get_or-set_same nine n (get_or numbers (from + n) 0) 0 inside ∙ ap (λ j. get_or numbers (from + j) 0) (sym here)
  | inr other ↦ get_or-set_other nine n k (get_or numbers (from + n) 0) 0 other ∙ before k (omega arith)
]

read_all : (nine numbers : List ℕ) (from n : ℕ) → length nine ≡ 9 → length numbers ≡ 36 → from ≤ 27 → 9 ≤ n → ((k : ℕ) → k < n → get_or nine k 0 ≡ get_or numbers (from + k) 0)
    → nine ≡ take 9 (drop from numbers)
read_all nine numbers from n a b far last read =
    ext_get_or 0 nine (take 9 (drop from numbers)) (a ∙ sym size) (λ k inside. read k (omega arith) ∙ sym (get_or-drop from numbers k 0) ∙ sym (get_or-take 9 (drop from numbers) k 0 (omega arith)))
  where
    size : length (take 9 (drop from numbers)) ≡ 9
    size = length-take-le 9 (drop from numbers) (let d = length-drop from numbers in omega arith)

pub loop-n-preserved : goal.loop-n-preserved
loop-n-preserved c = record {
  size = length-set _ _ _ ∙ c.loop-n.invariant.size;
  read = read_more _ _ _ _ (let s = c.loop-n.invariant.size in omega arith) c.loop-n.invariant.read;
}

pub returns : goal.returns
returns c = read_all _ _ _ _ c.loop-n.invariant.size (omega arith) (omega arith) (omega arith) c.loop-n.invariant.read
