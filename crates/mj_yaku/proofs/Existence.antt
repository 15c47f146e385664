-- A complete hand has a reading.
use Rattle.std.proofs.Common.{ℕ, ◌≡◌, ◌<◌, ◌≤◌, ◌-◌, [], ◌∷◌, Bool, true, false, not, cond, List, length, take, get_or, Some, refl, sym, ◌∙◌, ap, arith, eqb, suc, inl, inr, ◌&&◌}
use Rattle.std.specs.List.{list_all, list_any, count_by, slice_get}
use Rattle.std.specs.Option.{option_map_or}
use Rattle.std.proofs.lemmas.Bool.{and_parts, and_from, or_left, or_right, eqb-true, false≢true}
use Rattle.std.proofs.lemmas.Bool.Decides.{nat_tests}
use Rattle.std.proofs.lemmas.Grind.{common_steps}
use Rattle.std.proofs.lemmas.List.{nil_from_length}
use Rattle.mj_tiles.specs.Counts.{IsCounts}
use Rattle.mj_tiles.specs.declared.meld.Meld.{Meld}
use Rattle.mj_readings.specs.declared.reading.Set.{Set}
use Rattle.mj_readings.specs.declared.reading.SetForm.{SetForm}
use Rattle.mj_readings.specs.declared.reading.SetForm.TheVariants.{Run, Triplet, Kan}
use Rattle.mj_readings.specs.declared.reading.Reading.{Reading}
use Rattle.mj_readings.specs.declared.reading.Reading.TheVariants.{Pairs, Orphans}
use Rattle.mj_readings.specs.Sets.{tiles_of_set, tiles_of_form, is_concealed, is_concealed_form, place_of, place_of_form}
use Rattle.mj_readings.specs.Complete.{AreSetsAndPair, IsComplete}
use Rattle.mj_readings.specs.Readings.{IsReading, set_has, names_winning, has_no_equal_before}
use Rattle.mj_readings.specs.Tests.{complete}
use Rattle.mj_readings.specs.Inner.ReadingLists.{standard_of, pair_kinds}
use Rattle.mj_readings.proofs.Laws.{complete-are, are-way, way-are}
use Rattle.mj_readings.proofs.Sorting.{sorted}
use Rattle.mj_readings.proofs.Company.{number_of}
use Rattle.mj_readings.proofs.SumLaws.{concealed_form}
use Rattle.mj_readings.proofs.Tiles.{number_at}
use Rattle.mj_readings.proofs.ReadingLaws.{standard_is}

-- Concealed sets at one place have the same tiles.
same_tiles : (f g : SetForm) (a b : ℕ) → is_concealed_form f a ≡ true → is_concealed_form g b ≡ true → place_of_form f a ≡ place_of_form g b → tiles_of_form f a ≡ tiles_of_form g b
same_tiles Run Run a b h k e = (let same : a ≡ b = omega (arith, e) in ap (tiles_of_form Run) same)
same_tiles Run Triplet a b h k e = absurd (omega (arith, e))
same_tiles Triplet Run a b h k e = absurd (omega (arith, e))
same_tiles Triplet Triplet a b h k e = (let same : a ≡ b = omega (arith, e) in ap (tiles_of_form Triplet) same)
same_tiles Run Kan a b h k e = absurd (false≢true k)
same_tiles Triplet Kan a b h k e = absurd (false≢true k)
same_tiles Kan g a b h k e = absurd (false≢true h)

-- A set without a kind stands at another place than one with it.
other_place : (winning : ℕ) (other set : Set) → is_concealed other ≡ true → is_concealed set ≡ true → set_has winning set ≡ true → set_has winning other ≡ false →
    not (eqb (place_of other) (place_of set)) ≡ true
other_place winning other set one two has lacks = by_test (eqb (place_of other) (place_of set)) refl
  where
    by_test : (b : Bool) → eqb (place_of other) (place_of set) ≡ b → not b ≡ true
    by_test false is = refl
    by_test true is =
        let same = same_tiles other.form set.form other.low set.low (concealed_form other one) (concealed_form set two) (eqb-true (place_of other) (place_of set) is) in
        absurd (false≢true (sym lacks ∙ ap (list_any (λ tile. eqb tile winning)) same ∙ has))

none_counted : (kind : ℕ) (tiles : List ℕ) → list_any (λ tile. eqb tile kind) tiles ≡ false → count_by (λ tile. eqb tile kind) tiles ≡ 0
none_counted kind [] none = refl
none_counted kind (tile ∷ tiles) none = step (eqb tile kind) refl (λ rest. none_counted kind tiles rest) none
  where
    step : (b : Bool) → eqb tile kind ≡ b → (list_any (λ tile. eqb tile kind) tiles ≡ false → count_by (λ tile. eqb tile kind) tiles ≡ 0) →
        list_any (λ tile. eqb tile kind) (tile ∷ tiles) ≡ false → count_by (λ tile. eqb tile kind) (tile ∷ tiles) ≡ 0
    step b is go none = grind (arith, nat_tests, common_steps, is, go, none)

-- The first of some concealed sets that has a kind.
record FirstWith (winning : ℕ) (sets : List Set) : Type 0 where
  win : ℕ
  set : Set
  at : slice_get sets win ≡ Some set
  concealed : is_concealed set ≡ true
  has : set_has winning set ≡ true
  before : (test : Set → Bool) → ((other : Set) → is_concealed other ≡ true → set_has winning other ≡ false → test other ≡ true) → list_all test (take win sets) ≡ true

first_with : (winning : ℕ) (sets : List Set) → list_all is_concealed sets ≡ true → 0 < number_at winning sets → FirstWith winning sets
first_with winning [] each some = absurd (omega (arith, some))
first_with winning (set ∷ others) each some = split (set_has winning set) refl (λ rest. first_with winning others parts.1 rest)
  where
    parts : (is_concealed set ≡ true) × (list_all is_concealed others ≡ true)
    parts = and_parts (is_concealed set) (list_all is_concealed others) each

    split : (b : Bool) → set_has winning set ≡ b → (0 < number_at winning others → FirstWith winning others) → FirstWith winning (set ∷ others)
    split true is go = record { win = 0; set = set; at = refl; concealed = parts.0; has = is; before = λ test fails. refl }
    split false is go =
        let rest = go (omega (arith, some, none_counted winning (tiles_of_set set) is)) in
        record {
          win = suc rest.win;
          set = rest.set;
          at = rest.at;
          concealed = rest.concealed;
          has = rest.has;
          before = λ test fails. and_from (test set) (list_all test (take rest.win others)) (fails set parts.0 is) (rest.before test fails);
        }

-- A kind that is held has a place among sets and a pair.
winning_place : (counts : List ℕ) (number : ℕ) (sets : List Set) (pair winning : ℕ) → AreSetsAndPair counts number sets pair → winning < 34 → 0 < get_or counts winning 0 →
    (win : ℕ) × (names_winning sets pair winning win ≡ true)
unfolding names_winning
winning_place counts number sets pair winning are within some = split (eqb pair winning) refl
  where
    in_set_of : FirstWith winning sets → (win : ℕ) × (names_winning sets pair winning win ≡ true)
    in_set_of found = (
      found.win,
      or_right (eqb found.win 4 && eqb pair winning) (option_map_or (λ set. set_has winning set && has_no_equal_before sets found.win set) (slice_get sets found.win) false)
          (ap (λ o. option_map_or (λ set. set_has winning set && has_no_equal_before sets found.win set) o false) found.at
          ∙ and_from (set_has winning found.set) (has_no_equal_before sets found.win found.set) found.has
          (found.before (λ other. not (eqb (place_of other) (place_of found.set)))
          (λ other concealed lacks. other_place winning other found.set concealed found.concealed found.has lacks))),
    )

    split : (b : Bool) → eqb pair winning ≡ b → (win : ℕ) × (names_winning sets pair winning win ≡ true)
    split true is = (4, or_left (eqb 4 4 && eqb pair winning) _ (and_from (eqb 4 4) (eqb pair winning) refl is))
    split false is =
        let none : ◌≡◌ {A = ℕ} (cond (eqb pair winning) 2 0) 0 = ap (λ (b : Bool). cond b 2 0) is in
        in_set_of (first_with winning sets are.concealed (omega (arith, some, none, number_of counts number sets pair winning are within)))

standard_exists : (counts : List ℕ) (melds : List Meld) (winning : ℕ) (sets : List Set) (pair : ℕ) → IsCounts counts → winning < 34 → 0 < get_or counts winning 0 →
    length melds ≤ 4 → AreSetsAndPair counts (4 - length melds) sets pair → (reading : Reading) × IsReading counts melds winning reading
standard_exists counts melds winning sets pair are within some few split =
    let way = way-are counts (4 - length melds) (record { sets = sorted sets; pair = pair }) are.size (are-way counts (4 - length melds) sets pair are.size split) in
    let place = winning_place counts (4 - length melds) (sorted sets) pair winning way.0 within some in (
      standard_of melds winning (record { sets = sorted sets; pair = pair; win = place.0 }),
      standard_is counts melds winning (record { sets = sorted sets; pair = pair; win = place.0 }) few (record { split = way.0; order = way.1; win_place = place.1 }),
    )

pub reading_exists : (counts : List ℕ) (melds : List Meld) (winning : ℕ) → IsCounts counts → winning < 34 → 0 < get_or counts winning 0 →
    complete counts (length melds) ≡ true → (reading : Reading) × IsReading counts melds winning reading
reading_exists counts melds winning are within some test = at (complete-are counts (length melds) are test)
  where
    at : IsComplete counts (length melds) → (reading : Reading) × IsReading counts melds winning reading
    at (inl standard) = standard_exists counts melds winning standard.1.0 standard.1.1 are within some standard.0 standard.1.2
    at (inr (inl pairs)) = (Pairs (pair_kinds counts), (nil_from_length melds pairs.0, pairs.1, refl))
    at (inr (inr orphans)) = (Orphans orphans.1.0, (nil_from_length melds orphans.0, orphans.1.1))
