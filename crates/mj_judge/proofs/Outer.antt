-- How many kinds of terminals and honours stand among tiles, one kind after another.
use Rattle.std.proofs.Common.{◌≡◌, ℕ, ◌+◌, ◌<◌, ◌≤◌, ◌&&◌, Bool, true, false, cond, ltb, List, [], ◌∷◌, ◌++◌, length, take, get_or, refl, sym, ap, ◌∙◌, arith}
use Rattle.std.specs.Prelude.{count_by}
use Rattle.std.proofs.lemmas.List.{take_more, take_all}
use Rattle.std.proofs.lemmas.List.FromFn.{length-range_with_len, get_or-range_with_len}
use Rattle.std.proofs.lemmas.List.Sums.{sum_by-append, sum_by-cons}
use Rattle.mj_tiles.specs.Counts.{all_kinds, number_of, kind_counts}
use Rattle.mj_tiles.specs.Terminals.{is_terminal_or_honour}
use Rattle.mj_tiles.proofs.CountSteps.{get_or-kind_counts}

-- The kind is a terminal or an honour, and stands among the tiles.
abbrev pub stands_outer : List ℕ → ℕ → Bool
stands_outer tiles kind = is_terminal_or_honour kind && ltb 0 (number_of tiles kind)

-- So many of the first kinds.
abbrev pub outer_below : List ℕ → ℕ → ℕ
outer_below tiles n = count_by (stands_outer tiles) (take n all_kinds)

pub outer_none : (tiles : List ℕ) → 0 ≡ outer_below tiles 0
outer_none tiles = refl

-- One kind further.
pub outer_more : (tiles counts : List ℕ) (n kind before : ℕ) (stands : Bool) → n < 34 → kind ≡ n → counts ≡ kind_counts tiles →
    stands ≡ (is_terminal_or_honour kind && ltb 0 (get_or counts kind 0)) → before ≡ outer_below tiles n → before + cond stands 1 0 ≡ outer_below tiles (n + 1)
unfolding all_kinds
outer_more tiles counts n kind before stands low at is told was =
    (λ i. was i + cond (here i) 1 0)
    ∙ ap (λ m. outer_below tiles n + m) (sym (sum_by-cons (λ x. cond (stands_outer tiles x) 1 0) n [] ∙ plus_none _))
    ∙ sym (ap (count_by (stands_outer tiles)) (take_more all_kinds n 0 inside ∙ ap (λ x. take n all_kinds ++ x ∷ []) (get_or-range_with_len 0 34 n 0 low ∙ from_none n))
    ∙ sum_by-append (λ x. cond (stands_outer tiles x) 1 0) (take n all_kinds) (n ∷ []))
  where
    inside : n < length all_kinds
    inside = omega (arith, low, length-range_with_len 0 34)

    plus_none : (m : ℕ) → m + 0 ≡ m
    plus_none m = omega arith

    from_none : (m : ℕ) → 0 + m ≡ m
    from_none m = omega arith

    here : stands ≡ stands_outer tiles n
    here =
        told ∙ ap (λ k. is_terminal_or_honour k && ltb 0 (get_or counts k 0)) at
        ∙ ap (λ m. is_terminal_or_honour n && ltb 0 m) (ap (λ (ns : List ℕ). get_or ns n 0) is ∙ get_or-kind_counts tiles n low)

-- Of all kinds.
pub outer_all : (tiles : List ℕ) (n held : ℕ) → 34 ≤ n → held ≡ outer_below tiles n → held ≡ count_by (stands_outer tiles) all_kinds
unfolding all_kinds
outer_all tiles n held all was = was ∙ ap (count_by (stands_outer tiles)) (take_all n all_kinds (omega (arith, all, length-range_with_len 0 34)))

-- The kind is one of them, or is not.
pub outer_yes : (tiles counts : List ℕ) (n kind before now : ℕ) (stands : Bool) → n < 34 → kind ≡ n → counts ≡ kind_counts tiles →
    stands ≡ (is_terminal_or_honour kind && ltb 0 (get_or counts kind 0)) → before ≡ outer_below tiles n → stands ≡ true → now ≡ before + 1 → now ≡ outer_below tiles (n + 1)
outer_yes tiles counts n kind before now stands low at is told was stood more =
    more ∙ ap (λ b. before + cond b 1 0) (sym stood) ∙ outer_more tiles counts n kind before stands low at is told was

pub outer_no : (tiles counts : List ℕ) (n kind before now : ℕ) (stands : Bool) → n < 34 → kind ≡ n → counts ≡ kind_counts tiles →
    stands ≡ (is_terminal_or_honour kind && ltb 0 (get_or counts kind 0)) → before ≡ outer_below tiles n → stands ≡ false → now ≡ before → now ≡ outer_below tiles (n + 1)
outer_no tiles counts n kind before now stands low at is told was lacks same =
    same ∙ plus_none before ∙ ap (λ b. before + cond b 1 0) (sym lacks) ∙ outer_more tiles counts n kind before stands low at is told was
  where
    plus_none : (m : ℕ) → m ≡ m + 0
    plus_none m = omega arith
