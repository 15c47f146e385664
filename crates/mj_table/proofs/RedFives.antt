-- How many tiles of each kind there are: those of the plain faces, and the red fives with the fives.
use Rattle.std.proofs.Common.{◌≡◌, ℕ, ◌+◌, ◌<◌, ◌≤◌, ◌⊎◌, inl, inr, cond, eqb, List, length, take, set, get_or, sym, ap, ◌∙◌, arith, get_or-set_same, get_or-set_other, length-set}
use Rattle.std.proofs.lemmas.Bool.{cases_eq, eq-eqb, ne_eqb}
use Rattle.std.proofs.lemmas.Grind.{same_number_lists}
use Rattle.std.proofs.lemmas.List.{get_or-take}
use Rattle.mj_tiles.specs.Counts.{number_of, kind_counts, NoFifth}
use Rattle.mj_tiles.proofs.CountSteps.{length-kind_counts, get_or-kind_counts}
use Rattle.mj_table.specs.Inner.Kept.{tiles_held}
use Rattle.mj_table.proofs.FaceSums.{kind_sum}

-- So many more of one kind.
abbrev pub plus : List ℕ → ℕ → ℕ → List ℕ
plus numbers kind count = set numbers kind (get_or numbers kind 0 + count)

plus_at : (numbers : List ℕ) (kind count other : ℕ) → kind < length numbers → get_or (plus numbers kind count) other 0 ≡ get_or numbers other 0 + cond (eqb kind other) count 0
plus_at numbers kind count other there = by_place (cases_eq other kind)
  where
    more : (a b n m : ℕ) → a ≡ b → m ≡ n → a + n ≡ b + m
    more a b n m e f = omega (arith, e, f)

    none : (b m : ℕ) → m ≡ 0 → b ≡ b + m
    none b m e = omega (arith, e)

    by_place : (other ≡ kind) ⊎ (other ≡ kind → ⊥) → get_or (plus numbers kind count) other 0 ≡ get_or numbers other 0 + cond (eqb kind other) count 0
    by_place (inl same) =
        ap (λ q. get_or (plus numbers kind count) q 0) same ∙ get_or-set_same numbers kind (get_or numbers kind 0 + count) 0 there
        ∙ more _ _ count _ (ap (λ q. get_or numbers q 0) (sym same)) (ap (λ b. cond b count 0) (eq-eqb kind other (sym same)))
    by_place (inr differ) =
        get_or-set_other numbers kind other (get_or numbers kind 0 + count) 0 differ ∙ none _ _ (ap (λ b. cond b count 0) (ne_eqb kind other (λ e. differ (sym e))))

plus_size : (numbers : List ℕ) (kind count : ℕ) → length (plus numbers kind count) ≡ length numbers
plus_size numbers kind count = length-set numbers kind (get_or numbers kind 0 + count)

-- The plain faces with one, two and three of the red fives.
abbrev pub with_one : List ℕ → List ℕ → List ℕ
with_one held plain = plus plain 4 (get_or held 34 0)

abbrev pub with_two : List ℕ → List ℕ → List ℕ
with_two held plain = plus (with_one held plain) 13 (get_or held 35 0)

abbrev pub with_three : List ℕ → List ℕ → List ℕ
with_three held plain = plus (with_two held plain) 22 (get_or held 36 0)

with_size : (held plain : List ℕ) → length plain ≡ 34 → length (with_three held plain) ≡ 34
with_size held plain size =
    plus_size (with_two held plain) 22 (get_or held 36 0) ∙ plus_size (with_one held plain) 13 (get_or held 35 0) ∙ plus_size plain 4 (get_or held 34 0) ∙ size

with_at : (held plain : List ℕ) (kind : ℕ) → plain ≡ take 34 held → length plain ≡ 34 → kind < 34 → get_or (with_three held plain) kind 0 ≡ number_of (tiles_held held) kind
with_at held plain kind is size low =
    both _ _ _ _ _ _ _ _ (plus_at (with_two held plain) 22 (get_or held 36 0) kind (omega (arith, plus_size (with_one held plain) 13 (get_or held 35 0), plus_size plain 4 (get_or held 34 0), size)))
    (plus_at (with_one held plain) 13 (get_or held 35 0) kind (omega (arith, plus_size plain 4 (get_or held 34 0), size)))
    (plus_at plain 4 (get_or held 34 0) kind (omega (arith, size)))
    (ap (λ ns. get_or ns kind 0) is ∙ get_or-take 34 held kind 0 low) (kind_sum held kind low)
  where
    both : (three two one none own first second third : ℕ) {all : ℕ} → three ≡ two + third → two ≡ one + second → one ≡ none + first → none ≡ own → all ≡ own + first + second + third → three ≡ all
    both three two one none own first second third e f g h i = omega (arith, e, f, g, h, i)

-- With all three they are the numbers of the kinds.
pub reds_added : (held plain : List ℕ) → plain ≡ take 34 held → length plain ≡ 34 → with_three held plain ≡ kind_counts (tiles_held held)
reds_added held plain is size =
    same_number_lists (with_three held plain) (kind_counts (tiles_held held)) (with_size held plain size ∙ sym (length-kind_counts (tiles_held held)))
    (λ k inside. each k (omega (arith, inside, with_size held plain size)))
  where
    each : (k : ℕ) → k < 34 → get_or (with_three held plain) k 0 ≡ get_or (kind_counts (tiles_held held)) k 0
    each k low = with_at held plain k is size low ∙ sym (get_or-kind_counts (tiles_held held) k low)

-- And none is above four on the way.
at_most : (held plain : List ℕ) (kind : ℕ) → plain ≡ take 34 held → length plain ≡ 34 → NoFifth (kind_counts (tiles_held held)) → kind < 34 → get_or (with_three held plain) kind 0 ≤ 4
at_most held plain kind is size few low = omega (arith, ap (λ ns. get_or ns kind 0) (reds_added held plain is size), few kind)

pub first_few : (held plain : List ℕ) → plain ≡ take 34 held → length plain ≡ 34 → NoFifth (kind_counts (tiles_held held)) → get_or plain 4 0 + get_or held 34 0 ≤ 4
first_few held plain is size few =
    least _ _ _ _ (at_most held plain 4 is size few (omega arith)) (plus_at (with_two held plain) 22 (get_or held 36 0) 4
    (omega (arith, plus_size (with_one held plain) 13 (get_or held 35 0), plus_size plain 4 (get_or held 34 0), size)))
    (plus_at (with_one held plain) 13 (get_or held 35 0) 4 (omega (arith, plus_size plain 4 (get_or held 34 0), size))) (plus_at plain 4 (get_or held 34 0) 4 (omega (arith, size)))
  where
    least : (three two one : ℕ) (sum : ℕ) → three ≤ 4 → three ≡ two + 0 → two ≡ one + 0 → one ≡ sum → sum ≤ 4
    least three two one sum h e f g = omega (arith, h, e, f, g)

pub second_few : (held plain : List ℕ) → plain ≡ take 34 held → length plain ≡ 34 → NoFifth (kind_counts (tiles_held held)) → get_or (with_one held plain) 13 0 + get_or held 35 0 ≤ 4
second_few held plain is size few =
    least _ _ _ (at_most held plain 13 is size few (omega arith)) (plus_at (with_two held plain) 22 (get_or held 36 0) 13
    (omega (arith, plus_size (with_one held plain) 13 (get_or held 35 0), plus_size plain 4 (get_or held 34 0), size)))
    (plus_at (with_one held plain) 13 (get_or held 35 0) 13 (omega (arith, plus_size plain 4 (get_or held 34 0), size)))
  where
    least : (three two sum : ℕ) → three ≤ 4 → three ≡ two + 0 → two ≡ sum → sum ≤ 4
    least three two sum h e f = omega (arith, h, e, f)

pub third_few : (held plain : List ℕ) → plain ≡ take 34 held → length plain ≡ 34 → NoFifth (kind_counts (tiles_held held)) → get_or (with_two held plain) 22 0 + get_or held 36 0 ≤ 4
third_few held plain is size few =
    least _ _ (at_most held plain 22 is size few (omega arith)) (plus_at (with_two held plain) 22 (get_or held 36 0) 22
    (omega (arith, plus_size (with_one held plain) 13 (get_or held 35 0), plus_size plain 4 (get_or held 34 0), size)))
  where
    least : (three sum : ℕ) → three ≤ 4 → three ≡ sum → sum ≤ 4
    least three sum h e = omega (arith, h, e)
