use Rattle.std.proofs.Common.{◌≡◌, ◌+◌, ◌-◌, ◌<◌, ◌≤◌, ◌++◌, ℕ, List, length, get_or, set, take, arith, sym, ap, ◌∙◌, get_or-set_other, get_or-set_same, ◌≢◌, inl, inr}
use Rattle.std.proofs.lemmas.List.{ext_get_or, take-set-le, length-take-le, get_or_append_left, get_or-append_right, get_or-take, length-set, length-append}
use Rattle.std.proofs.lemmas.Bool.{cases_lt, cases_eq}
use Rattle.mj_shanten.proofs.nearest_sets.with_nine.Goals as goal

-- one number more is written
written_more : (more nine : List ℕ) (from n : ℕ) → from + n < length more → ((k : ℕ) → k < n → get_or more (from + k) 0 ≡ get_or nine k 0)
    → (k : ℕ) → k < n + 1 → get_or (set more (from + n) (get_or nine n 0)) (from + k) 0 ≡ get_or nine k 0
written_more more nine from n inside before k few = elim (cases_eq k n) [
  | inl here ↦ ap (λ j. get_or (set more (from + n) (get_or nine n 0)) (from + j) 0) here ∙ get_or-set_same more (from + n) (get_or nine n 0) 0 inside ∙ ap (λ j. get_or nine j 0) (sym here)
  | inr other ↦ (let apart : from + k ≢ from + n = omega arith in get_or-set_other more (from + n) (from + k) (get_or nine n 0) 0 apart ∙ before k (omega arith))
]

-- all are written
written_all : (more target nine : List ℕ) (from n : ℕ) → length more ≡ 36 → length target ≡ 36 → length nine ≡ 9 → from ≤ 27 → 9 ≤ n → take from more ≡ take from target
    → ((k : ℕ) → k < n → get_or more (from + k) 0 ≡ get_or nine k 0) → take (from + 9) more ≡ take from target ++ nine
written_all more target nine from n a b d far last before written = ext_get_or 0 (take (from + 9) more) (take from target ++ nine) sizes each
  where
    front : length (take from target) ≡ from
    front = length-take-le from target (omega arith)

    whole : length (take (from + 9) more) ≡ from + 9
    whole = length-take-le (from + 9) more (omega arith)

    sizes : length (take (from + 9) more) ≡ length (take from target ++ nine)
    sizes = whole ∙ sym (length-append (take from target) nine ∙ (let g = front in omega arith))

    each : (k : ℕ) → k < length (take (from + 9) more) → get_or (take (from + 9) more) k 0 ≡ get_or (take from target ++ nine) k 0
    each k inside =
        let within : k < from + 9 = (let w = whole in omega arith) in
        elim (cases_lt k from) [
          | inl low ↦
              get_or-take (from + 9) more k 0 within
              ∙ sym (get_or-take from more k 0 low)
              ∙ ap (λ xs. get_or xs k 0) before
              ∙ sym (get_or_append_left (take from target) nine 0 k (let g = front in omega arith))
          | inr high ↦ (let place : k ≡ from + (k - from) = omega arith in
              get_or-take (from + 9) more k 0 within
              ∙ ap (λ j. get_or more j 0) place
              ∙ written (k - from) (omega arith)
              ∙ sym (get_or-append_right (take from target) nine from k 0 front high))
        ]

pub loop-n-preserved : goal.loop-n-preserved
loop-n-preserved c = record {
  size = length-set _ _ _ ∙ c.loop-n.invariant.size;
  before = take-set-le _ _ _ _ (omega arith) ∙ c.loop-n.invariant.before;
  written = written_more _ _ _ _ (let s = c.loop-n.invariant.size in omega arith) c.loop-n.invariant.written;
}

pub returns : goal.returns
returns c = written_all _ _ _ _ _ c.loop-n.invariant.size (omega arith) (omega arith) (omega arith) (omega arith) c.loop-n.invariant.before c.loop-n.invariant.written
