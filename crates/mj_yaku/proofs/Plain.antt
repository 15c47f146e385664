-- Hands that have a yaku however they are read.
use Rattle.std.proofs.Common.{ℕ, ◌≡◌, ◌<◌, ◌≤◌, ◌+◌, ◌-◌, ◌*◌, ◌/◌, ◌%◌, ◌++◌, [], ◌∷◌, Bool, true, false, not, cond, List, length, take}
use Rattle.std.proofs.Common.{drop, get_or, Option, Some, None, refl, sym, ◌∙◌, ap, arith, eqb, ltb, ◌⊎◌, inl, inr, ◌&&◌, ◌||◌}
use Rattle.std.specs.List.{list_all, list_any, count_by, flat_map, position}
use Rattle.std.specs.Option.{option_map_or}
use Rattle.std.specs.Prelude.{IsTrue, ◌↔◌}
use Rattle.std.proofs.lemmas.Bool.{and_parts, and_from, or_cases, or_left, or_right, eq-eqb, ne_eqb, ltb-true, lt-ltb, false≢true, cases_lt, cases_eq}
use Rattle.std.proofs.lemmas.Bool.Decides.{nat_tests}
use Rattle.std.proofs.lemmas.Grind.{common_steps}
use Rattle.std.proofs.lemmas.List.{take-append-drop}
use Rattle.std.proofs.lemmas.List.Concat.{flat_map-cons}
use Rattle.std.proofs.lemmas.List.Folds.{list_all-append, list_all-map}
use Rattle.mj_tiles.specs.Counts.{IsCounts, all_kinds}
use Rattle.mj_tiles.specs.Kinds.{has_kind, kinds_that}
use Rattle.mj_tiles.specs.Terminals.{is_terminal_or_honour}
use Rattle.mj_tiles.specs.declared.meld.Meld.{Meld}
use Rattle.mj_tiles.proofs.EachKind.{all_kinds-pass}
use Rattle.mj_tiles.proofs.KindSets.{has_kind-kinds_that}
use Rattle.mj_readings.specs.declared.reading.Case.{Case}
use Rattle.mj_readings.specs.declared.reading.Set.{Set}
use Rattle.mj_readings.specs.declared.reading.SetForm.{SetForm}
use Rattle.mj_readings.specs.declared.reading.SetForm.TheVariants.{Run, Triplet, Kan}
use Rattle.mj_readings.specs.declared.reading.Reading.{Reading}
use Rattle.mj_readings.specs.declared.reading.Reading.TheVariants.{Standard, Pairs, Orphans}
use Rattle.mj_readings.specs.AllReadings.{readings_of}
use Rattle.mj_readings.specs.Sets.{tiles_of_set, tiles_of_form, is_concealed, is_concealed_form, set_of_meld}
use Rattle.mj_readings.specs.Complete.{AreSetsAndPair, AreOrphans}
use Rattle.mj_readings.specs.Readings.{IsReading, IsStandard}
use Rattle.mj_readings.specs.Tests.{complete}
use Rattle.mj_readings.proofs.Laws.{get_or-tally}
use Rattle.mj_readings.proofs.Orphans.{orphan_count}
use Rattle.mj_readings.proofs.ReadingLaws.{list_law}
use Rattle.mj_readings.proofs.SumLaws.{run_low, concealed_form}
use Rattle.mj_yaku.specs.Hands.{tiles_of}
use Rattle.mj_yaku.specs.Rows.{has_row, no_rows, with_row, rows_from}
use Rattle.mj_yaku.specs.SomeYaku.{gives_yaku, HasYaku}
use Rattle.mj_yaku.specs.WholeHand.{tanyao}
use Rattle.mj_yaku.specs.Wins.{reach, double_reach, menzen_tsumo, haitei, houtei, is_rinshan, chankan}
use Rattle.mj_yaku.specs.Yaku.{ordinary_rows, yakuman_rows, yaku_of}
use Rattle.mj_yaku.specs.Inner.Plain.{won_with_yaku, HasNoOutside, AreSimple}
use Rattle.mj_yaku.proofs.Existence.{reading_exists}
use Rattle.mj_yaku.proofs.RowMembers.{has_row-none, has_row-with, has_row-from}
use Rattle.mj_yaku.proofs.SomeReading.{any_reading}
use Rattle.mj_yaku.proofs.TileTests.{tests_of_pairs}

-- a row of the table

-- A row that holds gives a yaku, with a yakuman or without.
by_row : (reading : Reading) (melds : List Meld) (case : Case) (place : ℕ) → get_or (ordinary_rows reading case) place false ≡ true → gives_yaku melds case reading ≡ true
unfolding yaku_of
by_row reading melds case place holds = by_first (position (λ row. row) (yakuman_rows reading melds case))
  where
    some : (set row : ℕ) → has_row set row ≡ true → not (eqb set no_rows) ≡ true
    some set row has = ap not (ne_eqb set no_rows (λ e. false≢true (sym (has_row-none row) ∙ ap (λ s. has_row s row) (sym e) ∙ has)))

    by_first : (found : Option ℕ) → not (eqb (option_map_or (λ place. with_row no_rows (33 + place)) found (rows_from 0 (ordinary_rows reading case))) no_rows) ≡ true
    by_first (Some first) =
        some (with_row no_rows (33 + first)) (33 + first)
        (has_row-with no_rows (33 + first) (33 + first) ∙ or_left (eqb (33 + first) (33 + first)) (has_row no_rows (33 + first)) (eq-eqb (33 + first) (33 + first) refl))
    by_first None = some (rows_from 0 (ordinary_rows reading case)) (0 + place) (has_row-from (ordinary_rows reading case) 0 place ∙ holds)

-- A way to win that is a yaku gives one by each reading.
by_way : (reading : Reading) (melds : List Meld) (case : Case) → won_with_yaku case ≡ true → gives_yaku melds case reading ≡ true
unfolding ordinary_rows
by_way reading melds case won = last (or_cases sixth (chankan case) won)
  where
    second : Bool
    second = reach case || double_reach case

    third : Bool
    third = second || menzen_tsumo case

    fourth : Bool
    fourth = third || haitei case

    fifth : Bool
    fifth = fourth || houtei case

    sixth : Bool
    sixth = fifth || is_rinshan case

    by_second : (reach case ≡ true) ⊎ (double_reach case ≡ true) → gives_yaku melds case reading ≡ true
    by_second (inl is) = by_row reading melds case 0 is
    by_second (inr is) = by_row reading melds case 1 is

    by_third : (second ≡ true) ⊎ (menzen_tsumo case ≡ true) → gives_yaku melds case reading ≡ true
    by_third (inl is) = by_second (or_cases (reach case) (double_reach case) is)
    by_third (inr is) = by_row reading melds case 3 is

    by_fourth : (third ≡ true) ⊎ (haitei case ≡ true) → gives_yaku melds case reading ≡ true
    by_fourth (inl is) = by_third (or_cases second (menzen_tsumo case) is)
    by_fourth (inr is) = by_row reading melds case 12 is

    by_fifth : (fourth ≡ true) ⊎ (houtei case ≡ true) → gives_yaku melds case reading ≡ true
    by_fifth (inl is) = by_fourth (or_cases third (haitei case) is)
    by_fifth (inr is) = by_row reading melds case 13 is

    by_sixth : (fifth ≡ true) ⊎ (is_rinshan case ≡ true) → gives_yaku melds case reading ≡ true
    by_sixth (inl is) = by_fifth (or_cases fourth (houtei case) is)
    by_sixth (inr is) = by_row reading melds case 14 is

    last : (sixth ≡ true) ⊎ (chankan case ≡ true) → gives_yaku melds case reading ≡ true
    last (inl is) = by_sixth (or_cases fifth (is_rinshan case) is)
    last (inr is) = by_row reading melds case 15 is

-- twos to eights

abbrev simple : ℕ → Bool
simple kind = not (is_terminal_or_honour kind)

-- Tiles of which none is a terminal or an honour.
tiles_simple : (kinds : List ℕ) → ((k : ℕ) → k < 34 → is_terminal_or_honour k ≡ true → count_by (λ other. eqb other k) kinds ≡ 0) →
    list_all (λ k. ltb k 34) kinds ≡ true → list_all simple kinds ≡ true
tiles_simple [] none small = refl
tiles_simple (kind ∷ kinds) none small =
    and_from (simple kind) (list_all simple kinds) (by_test (is_terminal_or_honour kind) refl)
    (tiles_simple kinds (λ k within outside. omega (arith, none k within outside, fewer k)) parts.1)
  where
    parts : (ltb kind 34 ≡ true) × (list_all (λ k. ltb k 34) kinds ≡ true)
    parts = and_parts (ltb kind 34) (list_all (λ k. ltb k 34) kinds) small

    fewer : (k : ℕ) → count_by (λ other. eqb other k) kinds ≤ count_by (λ other. eqb other k) (kind ∷ kinds)
    fewer k = grind (arith, nat_tests, common_steps)

    here : count_by (λ other. eqb other kind) (kind ∷ kinds) ≡ 1 + count_by (λ other. eqb other kind) kinds
    here = grind (arith, nat_tests, common_steps)

    by_test : (b : Bool) → is_terminal_or_honour kind ≡ b → not b ≡ true
    by_test false is = refl
    by_test true is = absurd (omega (arith, here, none kind (ltb-true kind 34 parts.0) is))

-- The tiles of sets pass a test where those of each do.
of_sets : (test : ℕ → Bool) (sets : List Set) → list_all test (flat_map tiles_of_set sets) ≡ list_all (λ set. list_all test (tiles_of_set set)) sets
of_sets test [] = refl
of_sets test (set ∷ others) =
    ap (list_all test) (flat_map-cons tiles_of_set set others)
    ∙ list_all-append test (tiles_of_set set) (flat_map tiles_of_set others)
    ∙ ap (λ b. list_all test (tiles_of_set set) && b) (of_sets test others)

joined : (test : ℕ → Bool) (one other : List ℕ) → list_all test one ≡ true → list_all test other ≡ true → list_all test (one ++ other) ≡ true
joined test one other p q = list_all-append test one other ∙ and_from (list_all test one) (list_all test other) p q

-- The tiles of concealed sets are kinds.
set_below : (set : Set) → is_concealed set ≡ true → list_all (λ k. ltb k 34) (tiles_of_set set) ≡ true
set_below set concealed = form_below set.form set.low (concealed_form set concealed)
  where
    three : (a b c : ℕ) → ltb a 34 ≡ true → ltb b 34 ≡ true → ltb c 34 ≡ true → list_all (λ k. ltb k 34) (a ∷ b ∷ c ∷ []) ≡ true
    three a b c p q r = and_from (ltb a 34) _ p (and_from (ltb b 34) _ q (and_from (ltb c 34) true r refl))

    form_below : (form : SetForm) (low : ℕ) → is_concealed_form form low ≡ true → list_all (λ k. ltb k 34) (tiles_of_form form low) ≡ true
    form_below Run low begins =
        let r = run_low low begins in
        three low (low + 1) (low + 2) (lt-ltb low 34 (omega (arith, r.0))) (lt-ltb (low + 1) 34 (omega (arith, r.0))) (lt-ltb (low + 2) 34 (omega (arith, r.0)))
    form_below Triplet low number = three low low low number number number
    form_below Kan low none = absurd (false≢true none)

sets_below : (sets : List Set) → list_all is_concealed sets ≡ true → list_all (λ set. list_all (λ k. ltb k 34) (tiles_of_set set)) sets ≡ true
sets_below [] each = refl
sets_below (set ∷ others) each =
    let parts = and_parts (is_concealed set) (list_all is_concealed others) each in
    and_from (list_all (λ k. ltb k 34) (tiles_of_set set)) _ (set_below set parts.0) (sets_below others parts.1)

-- Sets and a pair of such tiles.
sets_simple : (counts : List ℕ) (number : ℕ) (sets : List Set) (pair : ℕ) → HasNoOutside counts → AreSetsAndPair counts number sets pair →
    (list_all (λ set. list_all simple (tiles_of_set set)) sets ≡ true) × (simple pair ≡ true)
sets_simple counts number sets pair none are =
    let pair_below = lt-ltb pair 34 are.pair_kind in
    let small = joined (λ k. ltb k 34) (flat_map tiles_of_set sets) (pair ∷ pair ∷ []) (of_sets (λ k. ltb k 34) sets ∙ sets_below sets are.concealed)
    (and_from (ltb pair 34) _ pair_below (and_from (ltb pair 34) true pair_below refl)) in
    let all = tiles_simple (flat_map tiles_of_set sets ++ pair ∷ pair ∷ [])
    (λ k within outside. sym (get_or-tally (flat_map tiles_of_set sets ++ pair ∷ pair ∷ []) k within) ∙ ap (λ ns. get_or ns k 0) are.tiles ∙ none k within outside) small in
    let parts = and_parts (list_all simple (flat_map tiles_of_set sets)) (list_all simple (pair ∷ pair ∷ []))
    (sym (list_all-append simple (flat_map tiles_of_set sets) (pair ∷ pair ∷ [])) ∙ all) in
    (sym (of_sets simple sets) ∙ parts.0, (and_parts (simple pair) (simple pair && true) parts.1).0)

standard_simple : (counts : List ℕ) (melds : List Meld) (winning : ℕ) (a b c d : Set) (pair win kind : ℕ) → AreSimple counts melds →
    IsStandard counts melds winning (a ∷ b ∷ c ∷ d ∷ []) pair win kind → tanyao (Standard a b c d pair win kind) ≡ true
unfolding tanyao tiles_of
standard_simple counts melds winning a b c d pair win kind plain is =
    joined simple (tiles_of_set a ++ tiles_of_set b ++ tiles_of_set c ++ tiles_of_set d) (pair ∷ pair ∷ [])
    (joined simple (tiles_of_set a ++ tiles_of_set b ++ tiles_of_set c) (tiles_of_set d)
    (joined simple (tiles_of_set a ++ tiles_of_set b) (tiles_of_set c) (joined simple (tiles_of_set a) (tiles_of_set b) one.0 two.0) three.0) four.0)
    (and_from (simple pair) _ front.1 (and_from (simple pair) true front.1 refl))
  where
    each : Set → Bool
    each set = list_all simple (tiles_of_set set)

    front : (list_all each (take (4 - length melds) (a ∷ b ∷ c ∷ d ∷ [])) ≡ true) × (simple pair ≡ true)
    front = sets_simple counts (4 - length melds) (take (4 - length melds) (a ∷ b ∷ c ∷ d ∷ [])) pair plain.concealed is.split

    back : list_all each (drop (4 - length melds) (a ∷ b ∷ c ∷ d ∷ [])) ≡ true
    back = ap (list_all each) is.melds_last ∙ list_all-map each set_of_meld melds ∙ plain.melded

    all : list_all each (a ∷ b ∷ c ∷ d ∷ []) ≡ true
    all =
        ap (list_all each) (sym (take-append-drop (4 - length melds) (a ∷ b ∷ c ∷ d ∷ [])))
        ∙ list_all-append each (take (4 - length melds) (a ∷ b ∷ c ∷ d ∷ [])) (drop (4 - length melds) (a ∷ b ∷ c ∷ d ∷ []))
        ∙ and_from (list_all each (take (4 - length melds) (a ∷ b ∷ c ∷ d ∷ []))) (list_all each (drop (4 - length melds) (a ∷ b ∷ c ∷ d ∷ []))) front.0 back

    one : (each a ≡ true) × (list_all each (b ∷ c ∷ d ∷ []) ≡ true)
    one = and_parts (each a) (list_all each (b ∷ c ∷ d ∷ [])) all

    two : (each b ≡ true) × (list_all each (c ∷ d ∷ []) ≡ true)
    two = and_parts (each b) (list_all each (c ∷ d ∷ [])) one.1

    three : (each c ≡ true) × (list_all each (d ∷ []) ≡ true)
    three = and_parts (each c) (list_all each (d ∷ [])) two.1

    four : (each d ≡ true) × (list_all each [] ≡ true)
    four = and_parts (each d) (list_all each []) three.1

pairs_simple : (counts : List ℕ) (kinds : ℕ) → HasNoOutside counts → kinds ≡ kinds_that (λ kind. eqb (get_or counts kind 0) 2) → tanyao (Pairs kinds) ≡ true
unfolding tanyao tiles_of
pairs_simple counts kinds none are =
    tests_of_pairs simple (has_kind kinds) all_kinds
    ∙ all_kinds-pass (λ kind. not (has_kind kinds kind) || simple kind) (λ kind within. by_test kind within (is_terminal_or_honour kind) refl)
  where
    by_test : (kind : ℕ) → kind < 34 → (b : Bool) → is_terminal_or_honour kind ≡ b → (not (has_kind kinds kind) || simple kind) ≡ true
    by_test kind within false is = or_right (not (has_kind kinds kind)) (simple kind) (ap not is)
    by_test kind within true is =
        or_left (not (has_kind kinds kind)) (simple kind)
        (ap not
        (ap (λ ks. has_kind ks kind) are ∙ has_kind-kinds_that (λ k. eqb (get_or counts k 0) 2) kind within
        ∙ ne_eqb (get_or counts kind 0) 2 (λ e. omega (arith, e, none kind within is))))

no_orphans : (counts : List ℕ) (double : ℕ) → HasNoOutside counts → AreOrphans counts double → ⊥
unfolding is_terminal_or_honour
no_orphans counts double none are = by_test (eqb 0 double) (sym (none 0 (omega arith) refl) ∙ orphan_count counts double 0 (omega arith) are)
  where
    by_test : (b : Bool) → ◌≡◌ {A = ℕ} 0 (cond b 2 1) → ⊥
    by_test true e = omega (arith, e)
    by_test false e = omega (arith, e)

all_simple : (counts : List ℕ) (melds : List Meld) (winning : ℕ) → AreSimple counts melds → (reading : Reading) → IsReading counts melds winning reading → tanyao reading ≡ true
all_simple counts melds winning plain (Standard a b c d pair win kind) is = standard_simple counts melds winning a b c d pair win kind plain is
all_simple counts melds winning plain (Pairs kinds) is = pairs_simple counts kinds plain.concealed is.2
all_simple counts melds winning plain (Orphans double) is = absurd (no_orphans counts double plain.concealed is.1)

by_tiles : (reading : Reading) (melds : List Meld) (case : Case) → tanyao reading ≡ true → gives_yaku melds case reading ≡ true
unfolding ordinary_rows
by_tiles reading melds case is = by_row reading melds case 6 is

-- Where no one, no nine and no honour is held.
pub ends_more : (counts : List ℕ) (suit : ℕ) (end : Bool) → ((s : ℕ) → s < suit → (get_or counts (9 * s) 0 ≡ 0) × (get_or counts (9 * s + 8) 0 ≡ 0)) →
    end ≡ (ltb 0 (get_or counts (9 * suit) 0) || ltb 0 (get_or counts (9 * suit + 8) 0)) → end ≡ false →
    (s : ℕ) → s < suit + 1 → (get_or counts (9 * s) 0 ≡ 0) × (get_or counts (9 * s + 8) 0 ≡ 0)
ends_more counts suit end before is none s inside = at (cases_lt s suit)
  where
    neither : (a b : ℕ) → (ltb 0 a || ltb 0 b) ≡ false → (a ≡ 0) × (b ≡ 0)
    neither a b e = (grind (arith, nat_tests), grind (arith, nat_tests))

    at : (s < suit) ⊎ (suit ≤ s) → (get_or counts (9 * s) 0 ≡ 0) × (get_or counts (9 * s + 8) 0 ≡ 0)
    at (inl below) = before s below
    at (inr last) =
        let here : s ≡ suit = omega (arith, last, inside) in
        let both = neither (get_or counts (9 * suit) 0) (get_or counts (9 * suit + 8) 0) (sym is ∙ none) in
        (ap (λ n. get_or counts (9 * n) 0) here ∙ both.0, ap (λ n. get_or counts (9 * n + 8) 0) here ∙ both.1)

pub honours_more : (counts : List ℕ) (honour : ℕ) → ((h : ℕ) → h < honour → get_or counts (27 + h) 0 ≡ 0) → get_or counts (27 + honour) 0 ≡ 0 →
    (h : ℕ) → h < honour + 1 → get_or counts (27 + h) 0 ≡ 0
honours_more counts honour before none h inside = at (cases_lt h honour)
  where
    at : (h < honour) ⊎ (honour ≤ h) → get_or counts (27 + h) 0 ≡ 0
    at (inl below) = before h below
    at (inr last) =
        let here : h ≡ honour = omega (arith, last, inside) in
        ap (λ n. get_or counts (27 + n) 0) here ∙ none

pub none_outside : (counts : List ℕ) → ((s : ℕ) → s < 3 → (get_or counts (9 * s) 0 ≡ 0) × (get_or counts (9 * s + 8) 0 ≡ 0)) →
    ((h : ℕ) → h < 7 → get_or counts (27 + h) 0 ≡ 0) → HasNoOutside counts
unfolding is_terminal_or_honour
none_outside counts suits honours kind within outside = split (cases_lt kind 27)
  where
    an_end : kind < 27 → (kind % 9 ≡ 0 → ⊥) → (kind % 9 ≡ 8 → ⊥) → ⊥
    an_end number p q = grind (arith, nat_tests, outside, number, p, q)

    of_suit : kind < 27 → (kind % 9 ≡ 0) ⊎ (kind % 9 ≡ 0 → ⊥) → (kind % 9 ≡ 8) ⊎ (kind % 9 ≡ 8 → ⊥) → get_or counts kind 0 ≡ 0
    of_suit number (inl one) other =
        let same : kind ≡ 9 * (kind / 9) = omega (arith, one) in
        ap (λ k. get_or counts k 0) same ∙ (suits (kind / 9) (omega (arith, number))).0
    of_suit number (inr other) (inl nine) =
        let same : kind ≡ 9 * (kind / 9) + 8 = omega (arith, nine) in
        ap (λ k. get_or counts k 0) same ∙ (suits (kind / 9) (omega (arith, number))).1
    of_suit number (inr unlike) (inr nor) = absurd (an_end number unlike nor)

    split : (kind < 27) ⊎ (27 ≤ kind) → get_or counts kind 0 ≡ 0
    split (inl number) = of_suit number (cases_eq (kind % 9) 0) (cases_eq (kind % 9) 8)
    split (inr honour) =
        let same : kind ≡ 27 + (kind - 27) = omega (arith, honour) in
        ap (λ k. get_or counts k 0) same ∙ honours (kind - 27) (omega (arith, honour, within))

-- the hand

-- A complete hand whose readings all have a yaku.
pub record Anyhow (counts : List ℕ) (melds : List Meld) (winning : ℕ) (case : Case) : Type 0 where
  pub value : true ≡ list_any (gives_yaku melds case) (readings_of counts melds winning)
  pub law : IsTrue true ↔ HasYaku counts melds winning case

each_gives : (counts : List ℕ) (melds : List Meld) (winning : ℕ) (case : Case) → IsCounts counts → complete counts (length melds) ≡ true → winning < 34 → 0 < get_or counts winning 0 →
    ((reading : Reading) → IsReading counts melds winning reading → gives_yaku melds case reading ≡ true) → Anyhow counts melds winning case
each_gives counts melds winning case are test within some gives = record {
  value = value;
  law = any_reading counts melds winning case (readings_of counts melds winning) true (list_law counts melds winning are) value;
}
  where
    one : (reading : Reading) × IsReading counts melds winning reading
    one = reading_exists counts melds winning are within some test

    value : true ≡ list_any (gives_yaku melds case) (readings_of counts melds winning)
    value =
        sym ((any_reading counts melds winning case (readings_of counts melds winning) (list_any (gives_yaku melds case) (readings_of counts melds winning))
        (list_law counts melds winning are) refl).1 (one.0, (one.1, gives one.0 one.1)))

pub way_gives : (counts : List ℕ) (melds : List Meld) (winning : ℕ) (case : Case) → IsCounts counts → complete counts (length melds) ≡ true → winning < 34 → 0 < get_or counts winning 0 →
    won_with_yaku case ≡ true → Anyhow counts melds winning case
way_gives counts melds winning case are test within some won = each_gives counts melds winning case are test within some (λ reading is. by_way reading melds case won)

pub tiles_give : (counts : List ℕ) (melds : List Meld) (winning : ℕ) (case : Case) → IsCounts counts → complete counts (length melds) ≡ true → winning < 34 → 0 < get_or counts winning 0 →
    AreSimple counts melds → Anyhow counts melds winning case
tiles_give counts melds winning case are test within some plain =
    each_gives counts melds winning case are test within some (λ reading is. by_tiles reading melds case (all_simple counts melds winning plain reading is))
