-- Kinds listed one after another.
use Rattle.std.proofs.Common.{ℕ, ◌≡◌, ◌<◌, ◌≤◌, ◌+◌, ◌-◌, ◌++◌, ◌∷◌, [], Bool, true, false, cond, List, get_or, replicate, refl, sym, ◌∙◌, ap, ap₂, arith, suc}
use Rattle.std.specs.List.{flat_map, filter, range_with_len}
use Rattle.std.proofs.lemmas.List.{append_assoc, append-nil}
use Rattle.mj_tiles.specs.Counts.{all_kinds}
use Rattle.mj_bytes.specs.Adds.{Adds}
use Rattle.mj_shanten.specs.Shanten.{sorted_kinds}
use Rattle.mj_hand.specs.Text.{shanten_line, target_line, waits_line, hand_text}

-- the kinds from one on, each as often as it stands
abbrev pub sorted_from : List ℕ → ℕ → ℕ → List ℕ
sorted_from counts from n = flat_map (λ kind. replicate (get_or counts kind 0) kind) (range_with_len from n)

pub sorted_start : (counts items : List ℕ) → items ≡ [] → items ++ sorted_from counts 0 34 ≡ sorted_kinds counts
unfolding sorted_kinds all_kinds
sorted_start counts items none = ap (λ xs. xs ++ sorted_from counts 0 34) none

pub sorted_step : (counts items next whole : List ℕ) (number kind times : ℕ) → number < 34 → items ++ sorted_from counts number (34 - number) ≡ whole
    → next ≡ items ++ replicate times kind → kind ≡ number → times ≡ get_or counts kind 0
    → next ++ sorted_from counts (number + 1) (34 - (number + 1)) ≡ whole
sorted_step counts items next whole number kind times inside before step is many =
    ap (λ xs. xs ++ sorted_from counts (number + 1) (34 - (number + 1))) (step ∙ ap₂ (λ n k. items ++ replicate n k) (many ∙ ap (λ k. get_or counts k 0) is) is)
    ∙ append_assoc items (replicate (get_or counts number 0) number) (sorted_from counts (number + 1) (34 - (number + 1)))
    ∙ (let e : 34 - number ≡ suc (34 - (number + 1)) = omega arith in ap (λ n. items ++ sorted_from counts number n) (sym e))
    ∙ before

pub sorted_end : (counts items whole : List ℕ) (number : ℕ) → 34 ≤ number → items ++ sorted_from counts number (34 - number) ≡ whole → items ≡ whole
sorted_end counts items whole number last before =
    let e : 34 - number ≡ 0 = omega arith in
    sym (append-nil items) ∙ ap (λ n. items ++ sorted_from counts number n) (sym e) ∙ before

pub passing_start : (test : ℕ → Bool) (items : List ℕ) → items ≡ [] → items ++ filter test (range_with_len 0 34) ≡ filter test all_kinds
unfolding all_kinds
passing_start test items none = ap (λ xs. xs ++ filter test (range_with_len 0 34)) none

pub passing_step : (test : ℕ → Bool) (items next whole : List ℕ) (number kind : ℕ) (passes : Bool) → number < 34 → items ++ filter test (range_with_len number (34 - number)) ≡ whole
    → next ≡ items ++ cond passes (kind ∷ []) [] → kind ≡ number → passes ≡ test kind → next ++ filter test (range_with_len (number + 1) (34 - (number + 1))) ≡ whole
passing_step test items next whole number kind passes inside before step is said =
    let rest = filter test (range_with_len (number + 1) (34 - (number + 1))) in
    let e : 34 - number ≡ suc (34 - (number + 1)) = omega arith in
    ap (λ xs. xs ++ rest) (step ∙ ap₂ (λ b k. items ++ cond b (k ∷ []) []) (said ∙ ap test is) is)
    ∙ append_assoc items (cond (test number) (number ∷ []) []) rest
    ∙ ap (λ xs. items ++ xs) (joins (test number) number rest)
    ∙ ap (λ n. items ++ filter test (range_with_len number n)) (sym e)
    ∙ before
  where
    joins : (b : Bool) (k : ℕ) (xs : List ℕ) → cond b (k ∷ []) [] ++ xs ≡ cond b (k ∷ xs) xs
    joins true k xs = refl
    joins false k xs = refl

pub passing_end : (test : ℕ → Bool) (items whole : List ℕ) (number : ℕ) → 34 ≤ number → items ++ filter test (range_with_len number (34 - number)) ≡ whole → items ≡ whole
passing_end test items whole number last before =
    let e : 34 - number ≡ 0 = omega arith in
    sym (append-nil items) ∙ ap (λ n. items ++ filter test (range_with_len number n)) (sym e) ∙ before

-- the three lines, one after the other
pub lines_written : (a b c d target waits : List ℕ) (number : ℕ) → a ≡ [] → Adds a b (shanten_line number) → Adds b c (target_line target)
    → Adds c d (waits_line waits) → d ≡ hand_text number target waits
lines_written a b c d target waits number none first second third =
    third.is ∙ ap (λ xs. xs ++ waits_line waits) second.is
    ∙ ap (λ xs. (xs ++ target_line target) ++ waits_line waits) (first.is ∙ ap (λ xs. xs ++ shanten_line number) none)
    ∙ append_assoc (shanten_line number) (target_line target) (waits_line waits)
