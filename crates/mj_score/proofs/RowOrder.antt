-- The order of lists of rows: a walk over the rows finds it, and it is an order.
use Rattle.std.proofs.Common.{ℕ, ◌≡◌, ◌<◌, ◌+◌, ◌&&◌, ◌||◌, Bool, true, false, not, List, [], ◌∷◌, refl, sym, ◌∙◌, arith, zero, suc, cond, eqb, ltb}
use Rattle.std.specs.List.{filter, list_any, range_with_len}
use Rattle.std.proofs.lemmas.Bool.Decides.{nat_tests}
use Rattle.mj_yaku.specs.Rows.{has_row}
use Rattle.mj_score.specs.Scores.{comes_before}
use Rattle.mj_score.specs.Inner.RowWalk.{first_difference}

-- No test is both.
pub clash : (b : Bool) → b ≡ true → b ≡ false → ⊥
clash b p q = cc

-- A list that begins with a row comes before one of greater rows just where that has any.
before_later : (test : ℕ → Bool) (row from n : ℕ) (rest : List ℕ) → row < from →
    comes_before (row ∷ rest) (filter test (range_with_len from n)) ≡ list_any test (range_with_len from n)
unfolding comes_before
before_later test row from zero rest less = refl
before_later test row from (suc n) rest less = step test row from n rest less (test from) refl (before_later test row (from + 1) n rest (omega arith))
  where
    step : (test : ℕ → Bool) (row from n : ℕ) (rest : List ℕ) → row < from → (b : Bool) → test from ≡ b →
        comes_before (row ∷ rest) (filter test (range_with_len (from + 1) n)) ≡ list_any test (range_with_len (from + 1) n) →
        comes_before (row ∷ rest) (cond b (from ∷ filter test (range_with_len (from + 1) n)) (filter test (range_with_len (from + 1) n))) ≡ (b || list_any test (range_with_len (from + 1) n))
    step test row from n rest less true is others =
        let first : ltb row from ≡ true = grind (arith, nat_tests) in rw first refl
    step test row from n rest less false is others = others

-- A list of greater rows comes before one that begins with a row just where it is empty.
later_before : (test : ℕ → Bool) (row from n : ℕ) (rest : List ℕ) → row < from →
    comes_before (filter test (range_with_len from n)) (row ∷ rest) ≡ not (list_any test (range_with_len from n))
unfolding comes_before
later_before test row from zero rest less = refl
later_before test row from (suc n) rest less = step test row from n rest less (test from) refl (later_before test row (from + 1) n rest (omega arith))
  where
    step : (test : ℕ → Bool) (row from n : ℕ) (rest : List ℕ) → row < from → (b : Bool) → test from ≡ b →
        comes_before (filter test (range_with_len (from + 1) n)) (row ∷ rest) ≡ not (list_any test (range_with_len (from + 1) n)) →
        comes_before (cond b (from ∷ filter test (range_with_len (from + 1) n)) (filter test (range_with_len (from + 1) n))) (row ∷ rest) ≡ not (b || list_any test (range_with_len (from + 1) n))
    step test row from n rest less true is others =
        let first : ltb from row ≡ false = grind (arith, nat_tests) in
        let second : eqb from row ≡ false = grind (arith, nat_tests) in
        rw (first, second) refl
    step test row from n rest less false is others = others

-- Lists that begin with the same row are ordered by their rests.
same_first : (row : ℕ) (ones others : List ℕ) → comes_before (row ∷ ones) (row ∷ others) ≡ comes_before ones others
unfolding comes_before
same_first row ones others =
    let first : ltb row row ≡ false = grind (arith, nat_tests) in
    let second : eqb row row ≡ true = grind (arith, nat_tests) in
    rw (first, second) refl

-- The walk finds the order of the two lists of rows.
walk : (one other from n : ℕ) → first_difference one other (range_with_len from n) ≡
    comes_before (filter (has_row one) (range_with_len from n)) (filter (has_row other) (range_with_len from n))
unfolding comes_before first_difference
walk one other from zero = refl
walk one other from (suc n) = step one other from n (has_row one from) (has_row other from) (walk one other (from + 1) n)
  where
    step : (one other from n : ℕ) (a b : Bool) →
        first_difference one other (range_with_len (from + 1) n) ≡
        comes_before (filter (has_row one) (range_with_len (from + 1) n)) (filter (has_row other) (range_with_len (from + 1) n)) →
        cond a
        (cond b (first_difference one other (range_with_len (from + 1) n)) (list_any (has_row other) (range_with_len (from + 1) n)))
        (cond b (not (list_any (has_row one) (range_with_len (from + 1) n))) (first_difference one other (range_with_len (from + 1) n))) ≡
        comes_before
        (cond a (from ∷ filter (has_row one) (range_with_len (from + 1) n)) (filter (has_row one) (range_with_len (from + 1) n)))
        (cond b (from ∷ filter (has_row other) (range_with_len (from + 1) n)) (filter (has_row other) (range_with_len (from + 1) n)))
    step one other from n true true rest = rest ∙ sym (same_first from (filter (has_row one) (range_with_len (from + 1) n)) (filter (has_row other) (range_with_len (from + 1) n)))
    step one other from n true false rest = sym (before_later (has_row other) from (from + 1) n (filter (has_row one) (range_with_len (from + 1) n)) (omega arith))
    step one other from n false true rest = sym (later_before (has_row one) from (from + 1) n (filter (has_row other) (range_with_len (from + 1) n)) (omega arith))
    step one other from n false false rest = rest

pub first_difference_is : (one other : ℕ) → first_difference one other (range_with_len 0 45) ≡
    comes_before (filter (has_row one) (range_with_len 0 45)) (filter (has_row other) (range_with_len 0 45))
first_difference_is one other = walk one other 0 45

-- Two lists never come before each other.
pub before_asym : (ones others : List ℕ) → comes_before ones others ≡ true → comes_before others ones ≡ false
unfolding comes_before
before_asym [] [] h = absurd (cc)
before_asym [] (other ∷ others) h = refl
before_asym (one ∷ ones) [] h = absurd (cc)
before_asym (one ∷ ones) (other ∷ others) h = step one other (comes_before ones others) (comes_before others ones) (before_asym ones others) h
  where
    step : (one other : ℕ) (a b : Bool) → (a ≡ true → b ≡ false) → (ltb one other || (eqb one other && a)) ≡ true → (ltb other one || (eqb other one && b)) ≡ false
    step one other true b rest h = let no : b ≡ false = rest refl in rw no (grind (arith, nat_tests))
    step one other false b rest h = grind (arith, nat_tests)

-- Where one list doesn't come before a second, nor that before a third, the first doesn't come before the third.
pub before_not : (ones twos threes : List ℕ) → comes_before ones twos ≡ false → comes_before twos threes ≡ false → comes_before ones threes ≡ false
unfolding comes_before
before_not [] [] threes p q = q
before_not [] (two ∷ twos) threes p q = absurd (cc)
before_not (one ∷ ones) [] [] p q = refl
before_not (one ∷ ones) [] (three ∷ threes) p q = absurd (cc)
before_not (one ∷ ones) (two ∷ twos) [] p q = refl
before_not (one ∷ ones) (two ∷ twos) (three ∷ threes) p q =
    step one two three (comes_before ones twos) (comes_before twos threes) (comes_before ones threes) (before_not ones twos threes) p q
  where
    step : (one two three : ℕ) (a b c : Bool) → (a ≡ false → b ≡ false → c ≡ false) →
        (ltb one two || (eqb one two && a)) ≡ false → (ltb two three || (eqb two three && b)) ≡ false → (ltb one three || (eqb one three && c)) ≡ false
    step one two three a b false rest p q = grind (arith, nat_tests)
    step one two three true b true rest p q = grind (arith, nat_tests)
    step one two three false true true rest p q = grind (arith, nat_tests)
    step one two three false false true rest p q = absurd (clash true refl (rest refl refl))
