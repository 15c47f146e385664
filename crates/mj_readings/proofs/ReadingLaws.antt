-- The list of readings has all readings, no others, and each once.
use Rattle.std.proofs.Common.{ℕ, ◌≡◌, ◌≢◌, ◌<◌, ◌≤◌, ◌+◌, ◌-◌, ◌++◌, ◌∷◌, [], Bool, true, false, cond, List, length, get_or}
use Rattle.std.proofs.Common.{map, take, drop, refl, sym, ◌∙◌, ap, subst, arith, eqb, ◌⊎◌, inl, inr, Option, Some, None}
use Rattle.std.specs.List.{All, Contains, slice_get}
use Rattle.std.specs.Option.{option_to_list}
use Rattle.std.proofs.lemmas.Bool.{cases_lt, le-leb, lt-leb, eq-eqb, eqb-true}
use Rattle.std.proofs.lemmas.List.{length-append, length-map, take_at, drop_at, append_cancel_right, take-append-drop, nil_from_length, append-nil}
use Rattle.std.proofs.lemmas.List.Elements.{All-nil, All-cons, All-append, All-map, All-weaker, Contains-append_left, Contains-append_right}
use Rattle.mj_tiles.specs.Counts.{IsCounts}
use Rattle.mj_tiles.specs.declared.meld.Meld.{Meld}
use Rattle.mj_readings.specs.declared.reading.Set.{Set}
use Rattle.mj_readings.specs.declared.reading.Reading.{Reading}
use Rattle.mj_readings.specs.declared.reading.Reading.TheVariants.{Standard, Pairs, Orphans}
use Rattle.mj_readings.specs.declared.winning_way.WinningWay.{WinningWay}
use Rattle.mj_readings.specs.declared.winning_way.Spot.{Spot}
use Rattle.mj_readings.specs.Sets.{set_of_meld, in_order}
use Rattle.mj_readings.specs.Inner.SetLists.{no_set}
use Rattle.mj_readings.specs.Complete.{AreSetsAndPair, is_seven_pairs}
use Rattle.mj_readings.specs.Readings.{IsStandard, IsReading, AreReadings, names_winning}
use Rattle.mj_readings.specs.Inner.Ways.{ways}
use Rattle.mj_readings.specs.Inner.WinningWays.{winning_ways}
use Rattle.mj_readings.specs.Tests.{orphan_double}
use Rattle.mj_readings.specs.Inner.ReadingLists.{standard, standard_of, readings_past, standard_readings, pair_kinds, pairs_readings, orphans_readings}
use Rattle.mj_readings.specs.Inner.Spots.{ways_from}
use Rattle.mj_readings.specs.AllReadings.{readings_of}
use Rattle.mj_readings.proofs.Distinct.{Distinct, Distinct-append, Distinct-map_on, apart_by, AllPairs-Distinct}
use Rattle.mj_readings.proofs.Members.{Contains-here, Contains-map, All-slice_get}
use Rattle.mj_readings.proofs.Picking.{slice_get-left, slice_get-right, slice_get-mapped}
use Rattle.mj_readings.proofs.Orphans.{orphan_double-is, orphan_double-are}
use Rattle.mj_readings.proofs.WinningWayLaws.{IsWinningWay, winning_ways_sound, winning_ways_complete, winning_ways_once}

-- A list of four is its four items.
four_of : (sets : List Set) → length sets ≡ 4 → get_or sets 0 no_set ∷ get_or sets 1 no_set ∷ get_or sets 2 no_set ∷ get_or sets 3 no_set ∷ [] ≡ sets
four_of [] four = absurd (omega arith)
four_of (a ∷ []) four = absurd (omega arith)
four_of (a ∷ b ∷ []) four = absurd (omega arith)
four_of (a ∷ b ∷ c ∷ []) four = absurd (omega arith)
four_of (a ∷ b ∷ c ∷ d ∷ []) four = refl
four_of (a ∷ b ∷ c ∷ d ∷ e ∷ rest) four = absurd (omega arith)

all_four : (melds : List Meld) (sets : List Set) → length melds ≤ 4 → length sets ≡ 4 - length melds → length (sets ++ map set_of_meld melds) ≡ 4
all_four melds sets few so_many = omega (arith, length-append sets (map set_of_meld melds), length-map melds set_of_meld)

-- A winning_way with the melds is a standard reading.
pub standard_is : (counts : List ℕ) (melds : List Meld) (winning : ℕ) (winning_way : WinningWay) → length melds ≤ 4 →
    IsWinningWay counts (4 - length melds) winning winning_way → IsReading counts melds winning (standard_of melds winning winning_way)
standard_is counts melds winning winning_way few is =
    let all = winning_way.sets ++ map set_of_meld melds in
    let four = sym (four_of (winning_way.sets ++ map set_of_meld melds) (all_four melds winning_way.sets few is.split.so_many)) in
    let front : take (4 - length melds) (winning_way.sets ++ map set_of_meld melds) ≡ winning_way.sets = take_at winning_way.sets (map set_of_meld melds) (4 - length melds) is.split.so_many in
    let back : drop (4 - length melds) (winning_way.sets ++ map set_of_meld melds) ≡ map set_of_meld melds = drop_at winning_way.sets (map set_of_meld melds) (4 - length melds) is.split.so_many in
    subst (λ sets. IsStandard counts melds winning sets winning_way.pair winning_way.win winning) four
    (record {
      few = few;
      melds_last = back;
      split = subst (λ sets. AreSetsAndPair counts (4 - length melds) sets winning_way.pair) (sym front) is.split;
      order = ap in_order front ∙ is.order;
      win_place = ap (λ sets. names_winning sets winning_way.pair winning winning_way.win) front ∙ is.win_place;
      winning_kind = refl;
    })

-- The list of standard readings.
standard_on : (counts : List ℕ) (melds : List Meld) (winning : ℕ) → length melds ≤ 4 →
    standard_readings counts melds winning ≡ map (standard_of melds winning) (winning_ways [] winning (ways counts 0 0 0 (4 - length melds) None))
unfolding standard_readings
standard_on counts melds winning few = rw (le-leb (length melds) 4 few) refl

pub standard_off : (counts : List ℕ) (melds : List Meld) (winning : ℕ) → 4 < length melds → standard_readings counts melds winning ≡ []
unfolding standard_readings
standard_off counts melds winning many = rw (lt-leb (length melds) 4 many) refl

-- How many melds there are decides which it is.
by_melds : (P : List Reading → Type 0) (counts : List ℕ) (melds : List Meld) (winning : ℕ) → P [] →
    (length melds ≤ 4 → P (map (standard_of melds winning) (winning_ways [] winning (ways counts 0 0 0 (4 - length melds) None)))) → P (standard_readings counts melds winning)
by_melds P counts melds winning none some = split (cases_lt 4 (length melds))
  where
    split : (4 < length melds) ⊎ (length melds ≤ 4) → P (standard_readings counts melds winning)
    split (inl many) = subst P (sym (standard_off counts melds winning many)) none
    split (inr few) = subst P (sym (standard_on counts melds winning few)) (some few)

-- Whether it is one of seven pairs or thirteen orphans.
special_of : Reading → ℕ
special_of (Standard a b c d pair win kind) = 0
special_of (Pairs kinds) = 1
special_of (Orphans double) = 1

-- Each is a reading.
standard_each : (counts : List ℕ) (melds : List Meld) (winning : ℕ) → IsCounts counts → All (IsReading counts melds winning) (standard_readings counts melds winning)
standard_each counts melds winning are =
    by_melds (All (IsReading counts melds winning)) counts melds winning (All-nil (IsReading counts melds winning))
    (λ few. All-map (IsReading counts melds winning) (standard_of melds winning) (winning_ways [] winning (ways counts 0 0 0 (4 - length melds) None))
    (All-weaker (IsWinningWay counts (4 - length melds) winning) (λ winning_way. IsReading counts melds winning (standard_of melds winning winning_way))
    (λ winning_way is. standard_is counts melds winning winning_way few is) (winning_ways [] winning (ways counts 0 0 0 (4 - length melds) None))
    (winning_ways_sound counts (4 - length melds) winning are.size)))

pairs_each : (counts : List ℕ) (melds : List Meld) (winning : ℕ) → melds ≡ [] → All (IsReading counts melds winning) (pairs_readings counts)
unfolding pairs_readings
pairs_each counts melds winning none = branch (is_seven_pairs counts) refl
  where
    branch : (b : Bool) → is_seven_pairs counts ≡ b → All (IsReading counts melds winning) (cond b (Pairs (pair_kinds counts) ∷ []) [])
    branch true is = All-cons (IsReading counts melds winning) (Pairs (pair_kinds counts)) [] (none, is, refl) (All-nil (IsReading counts melds winning))
    branch false is = All-nil (IsReading counts melds winning)

orphans_each : (counts : List ℕ) (melds : List Meld) (winning : ℕ) → melds ≡ [] → All (IsReading counts melds winning) (orphans_readings counts)
unfolding orphans_readings
orphans_each counts melds winning none = branch (orphan_double counts) refl
  where
    branch : (o : Option ℕ) → orphan_double counts ≡ o → All (IsReading counts melds winning) (map Orphans (option_to_list o))
    branch None is = All-nil (IsReading counts melds winning)
    branch (Some double) is =
        All-cons (IsReading counts melds winning) (Orphans double) [] (none, orphan_double-are counts double is) (All-nil (IsReading counts melds winning))

list_each : (counts : List ℕ) (melds : List Meld) (winning : ℕ) → IsCounts counts → All (IsReading counts melds winning) (readings_of counts melds winning)
unfolding readings_of
list_each counts melds winning are =
    All-append (IsReading counts melds winning) (standard_readings counts melds winning) _ (standard_each counts melds winning are) (branch (eqb (length melds) 0) refl)
  where
    branch : (b : Bool) → eqb (length melds) 0 ≡ b → All (IsReading counts melds winning) (cond b (pairs_readings counts ++ orphans_readings counts) [])
    branch true none =
        let empty : melds ≡ [] = nil_from_length melds (eqb-true (length melds) 0 none) in
        All-append (IsReading counts melds winning) (pairs_readings counts) (orphans_readings counts)
        (pairs_each counts melds winning empty) (orphans_each counts melds winning empty)
    branch false some = All-nil (IsReading counts melds winning)

-- Each reading is there.
standard_has : (counts : List ℕ) (melds : List Meld) (winning : ℕ) (a b c d : Set) (pair win kind : ℕ) → IsCounts counts →
    IsStandard counts melds winning (a ∷ b ∷ c ∷ d ∷ []) pair win kind → Contains (standard_readings counts melds winning) (Standard a b c d pair win kind)
standard_has counts melds winning a b c d pair win kind are is =
    let sets = take (4 - length melds) (a ∷ b ∷ c ∷ d ∷ []) in
    let all : sets ++ map set_of_meld melds ≡ a ∷ b ∷ c ∷ d ∷ [] = ap (λ back. sets ++ back) (sym is.melds_last) ∙ take-append-drop (4 - length melds) (a ∷ b ∷ c ∷ d ∷ []) in
    let same : standard (sets ++ map set_of_meld melds) pair win winning ≡ Standard a b c d pair win kind =
    ap (λ four. standard four pair win winning) all ∙ ap (λ k. Standard a b c d pair win k) (sym is.winning_kind) in
    subst (λ list. Contains list (Standard a b c d pair win kind)) (sym (standard_on counts melds winning is.few))
    (subst (Contains (map (standard_of melds winning) (winning_ways [] winning (ways counts 0 0 0 (4 - length melds) None)))) same
    (Contains-map (standard_of melds winning) (winning_ways [] winning (ways counts 0 0 0 (4 - length melds) None)) (record { sets = sets; pair = pair; win = win })
    (winning_ways_complete counts (4 - length melds) winning (record { sets = sets; pair = pair; win = win }) are (omega arith)
    (record { split = is.split; order = is.order; win_place = is.win_place }))))

list_all_of : (counts : List ℕ) (melds : List Meld) (winning : ℕ) → IsCounts counts → (reading : Reading) → IsReading counts melds winning reading →
    Contains (readings_of counts melds winning) reading
unfolding readings_of pairs_readings orphans_readings
list_all_of counts melds winning are (Standard a b c d pair win kind) is =
    Contains-append_left (standard_readings counts melds winning) _ (Standard a b c d pair win kind) (standard_has counts melds winning a b c d pair win kind are is)
list_all_of counts melds winning are (Pairs kinds) is =
    let none : eqb (length melds) 0 ≡ true = eq-eqb (length melds) 0 (ap length is.0) in
    Contains-append_right (standard_readings counts melds winning) _ (Pairs kinds)
    (rw none (Contains-append_left (cond (is_seven_pairs counts) (Pairs (pair_kinds counts) ∷ []) []) _ (Pairs kinds)
    (rw is.1 (subst (Contains (Pairs (pair_kinds counts) ∷ [])) (ap Pairs (sym is.2)) (Contains-here (Pairs (pair_kinds counts)) [])))))
list_all_of counts melds winning are (Orphans double) is =
    let none : eqb (length melds) 0 ≡ true = eq-eqb (length melds) 0 (ap length is.0) in
    let found : orphan_double counts ≡ Some double = orphan_double-is counts double is.1 in
    Contains-append_right (standard_readings counts melds winning) _ (Orphans double)
    (rw none (Contains-append_right (cond (is_seven_pairs counts) (Pairs (pair_kinds counts) ∷ []) []) _ (Orphans double)
    (rw found (Contains-here (Orphans double) []))))

-- Each is there once.
standard_same : (counts : List ℕ) (melds : List Meld) (winning : ℕ) (one other : WinningWay) → length melds ≤ 4 → IsWinningWay counts (4 - length melds) winning one →
    IsWinningWay counts (4 - length melds) winning other → standard_of melds winning one ≡ standard_of melds winning other → one ≡ other
standard_same counts melds winning one other few is also e =
    let parts = standard_parts _ _ _ _ _ _ _ _ _ _ _ _ _ _ e in
    let four = sym (four_of (one.sets ++ map set_of_meld melds) (all_four melds one.sets few is.split.so_many))
    ∙ parts.0
    ∙ four_of (other.sets ++ map set_of_meld melds) (all_four melds other.sets few also.split.so_many) in
    let sets : one.sets ≡ other.sets = append_cancel_right one.sets other.sets (map set_of_meld melds) four in
    λ i. record { sets = sets i; pair = parts.1 i; win = parts.2 i }
  where
    standard_parts : (a b c d a' b' c' d' : Set) (p w k p' w' k' : ℕ) → Standard a b c d p w k ≡ Standard a' b' c' d' p' w' k' →
        (a ∷ b ∷ c ∷ d ∷ [] ≡ a' ∷ b' ∷ c' ∷ d' ∷ []) × (p ≡ p') × (w ≡ w')
    standard_parts a b c d a' b' c' d' p w k p' w' k' e = (cc, cc, cc)

standard_once : (counts : List ℕ) (melds : List Meld) (winning : ℕ) → IsCounts counts → Distinct (standard_readings counts melds winning)
standard_once counts melds winning are =
    by_melds Distinct counts melds winning tt
    (λ few. Distinct-map_on (standard_of melds winning) (IsWinningWay counts (4 - length melds) winning) (winning_ways [] winning (ways counts 0 0 0 (4 - length melds) None))
    (λ one other is also e. standard_same counts melds winning one other few is also e)
    (winning_ways_sound counts (4 - length melds) winning are.size) (winning_ways_once counts (4 - length melds) winning are.size))

special_once : (counts : List ℕ) → Distinct (pairs_readings counts ++ orphans_readings counts)
unfolding pairs_readings orphans_readings
special_once counts = branch (is_seven_pairs counts) (orphan_double counts)
  where
    branch : (b : Bool) (o : Option ℕ) → Distinct (cond b (Pairs (pair_kinds counts) ∷ []) [] ++ map Orphans (option_to_list o))
    branch true None = (All-nil (λ y. Pairs (pair_kinds counts) ≢ y), tt)
    branch true (Some double) =
        (All-cons (λ y. Pairs (pair_kinds counts) ≢ y) (Orphans double) [] (λ e. differ _ _ e) (All-nil (λ y. Pairs (pair_kinds counts) ≢ y)), (All-nil (λ y. Orphans double ≢ y), tt))
      where
        differ : (kinds double : ℕ) → Pairs kinds ≡ Orphans double → ⊥
        differ kinds double e = cc
    branch false None = tt
    branch false (Some double) = (All-nil (λ y. Orphans double ≢ y), tt)

standard_form : (counts : List ℕ) (melds : List Meld) (winning : ℕ) → All (λ reading. special_of reading ≡ 0) (standard_readings counts melds winning)
unfolding special_of
standard_form counts melds winning =
    by_melds (All (λ reading. special_of reading ≡ 0)) counts melds winning (All-nil (λ reading. special_of reading ≡ 0))
    (λ few. All-map (λ reading. special_of reading ≡ 0) (standard_of melds winning) (winning_ways [] winning (ways counts 0 0 0 (4 - length melds) None)) (λ k d inside. refl))

special_form : (counts : List ℕ) (none : Bool) → All (λ reading. special_of reading ≡ 1) (cond none (pairs_readings counts ++ orphans_readings counts) [])
unfolding special_of pairs_readings orphans_readings
special_form counts false = All-nil (λ reading. special_of reading ≡ 1)
special_form counts true =
    All-append (λ reading. special_of reading ≡ 1) (cond (is_seven_pairs counts) (Pairs (pair_kinds counts) ∷ []) []) (map Orphans (option_to_list (orphan_double counts)))
    (pairs (is_seven_pairs counts)) (orphans (orphan_double counts))
  where
    pairs : (b : Bool) → All (λ reading. special_of reading ≡ 1) (cond b (Pairs (pair_kinds counts) ∷ []) [])
    pairs true = All-cons (λ reading. special_of reading ≡ 1) (Pairs (pair_kinds counts)) [] refl (All-nil (λ reading. special_of reading ≡ 1))
    pairs false = All-nil (λ reading. special_of reading ≡ 1)

    orphans : (o : Option ℕ) → All (λ reading. special_of reading ≡ 1) (map Orphans (option_to_list o))
    orphans None = All-nil (λ reading. special_of reading ≡ 1)
    orphans (Some double) = All-cons (λ reading. special_of reading ≡ 1) (Orphans double) [] refl (All-nil (λ reading. special_of reading ≡ 1))

list_once : (counts : List ℕ) (melds : List Meld) (winning : ℕ) → IsCounts counts → Distinct (readings_of counts melds winning)
unfolding readings_of
list_once counts melds winning are =
    Distinct-append (standard_readings counts melds winning) special (standard_once counts melds winning are) (special_part (eqb (length melds) 0))
    (apart_by special_of 0 1 (standard_readings counts melds winning) special (standard_form counts melds winning) (special_form counts (eqb (length melds) 0)) (λ e. omega arith))
  where
    special : List Reading
    special = cond (eqb (length melds) 0) (pairs_readings counts ++ orphans_readings counts) []

    special_part : (b : Bool) → Distinct (cond b (pairs_readings counts ++ orphans_readings counts) [])
    special_part true = special_once counts
    special_part false = tt

-- The list of readings is all of them.
pub list_law : (counts : List ℕ) (melds : List Meld) (winning : ℕ) → IsCounts counts → AreReadings counts melds winning (readings_of counts melds winning)
list_law counts melds winning are = record {
  each = list_each counts melds winning are;
  all = list_all_of counts melds winning are;
  once = AllPairs-Distinct (readings_of counts melds winning) (list_once counts melds winning are);
}

-- Picking a standard reading.
pub standard-none : (counts : List ℕ) (melds : List Meld) (winning place : ℕ) → 4 < length melds → place ≡ length (standard_readings counts melds winning) + place
standard-none counts melds winning place many = rw (standard_off counts melds winning many) (omega arith)

pub standard-few : (counts numbers : List ℕ) (melds : List Meld) (sets : List Set) (winning place : ℕ) (winning_way : WinningWay) → numbers ≡ counts → length counts ≡ 34 → sets ≡ [] →
    length melds ≤ 4 → slice_get (winning_ways sets winning (ways numbers 0 0 0 (4 - length melds) None)) place ≡ Some winning_way → length winning_way.sets + length melds ≤ 4
standard-few counts numbers melds sets winning place winning_way same size none few found =
    let there : slice_get (winning_ways [] winning (ways counts 0 0 0 (4 - length melds) None)) place ≡ Some winning_way =
    ap (λ ns. slice_get (winning_ways [] winning (ways ns 0 0 0 (4 - length melds) None)) place) (sym same)
    ∙ ap (λ all. slice_get (winning_ways all winning (ways numbers 0 0 0 (4 - length melds) None)) place) (sym none) ∙ found in
    let is = All-slice_get (IsWinningWay counts (4 - length melds) winning) (winning_ways [] winning (ways counts 0 0 0 (4 - length melds) None)) place winning_way
    (winning_ways_sound counts (4 - length melds) winning size) there in
    omega (arith, is.split.so_many, few)

pub standard-ok : (counts numbers : List ℕ) (melds : List Meld) (sets : List Set) (winning place : ℕ) (winning_way : WinningWay) (reading : Reading) → numbers ≡ counts → sets ≡ [] →
    length melds ≤ 4 → slice_get (winning_ways sets winning (ways numbers 0 0 0 (4 - length melds) None)) place ≡ Some winning_way → reading ≡ standard_of melds winning winning_way →
    slice_get (standard_readings counts melds winning) place ≡ Some reading
standard-ok counts numbers melds sets winning place winning_way reading same none few found is =
    ap (λ list. slice_get list place) (standard_on counts melds winning few)
    ∙ slice_get-mapped (standard_of melds winning) (winning_ways [] winning (ways counts 0 0 0 (4 - length melds) None)) place winning_way
    (ap (λ ns. slice_get (winning_ways [] winning (ways ns 0 0 0 (4 - length melds) None)) place) (sym same)
    ∙ ap (λ all. slice_get (winning_ways all winning (ways numbers 0 0 0 (4 - length melds) None)) place) (sym none) ∙ found)
    ∙ ap Some (sym is)

pub standard-past : (counts numbers : List ℕ) (melds : List Meld) (sets : List Set) (winning place rest : ℕ) → numbers ≡ counts → sets ≡ [] → length melds ≤ 4 →
    place ≡ length (winning_ways sets winning (ways numbers 0 0 0 (4 - length melds) None)) + rest → place ≡ length (standard_readings counts melds winning) + rest
standard-past counts numbers melds sets winning place rest same none few past =
    past
    ∙ ap (λ all. length (winning_ways all winning (ways numbers 0 0 0 (4 - length melds) None)) + rest) none
    ∙ ap (λ ns. length (winning_ways [] winning (ways ns 0 0 0 (4 - length melds) None)) + rest) same
    ∙ ap (λ n. n + rest) (sym (length-map (winning_ways [] winning (ways counts 0 0 0 (4 - length melds) None)) (standard_of melds winning)))
    ∙ ap (λ list. length list + rest) (sym (standard_on counts melds winning few))

-- Picking a reading.
pub pick-standard : (counts : List ℕ) (melds : List Meld) (winning place : ℕ) (reading : Reading) →
    slice_get (standard_readings counts melds winning) place ≡ Some reading → Some reading ≡ slice_get (readings_of counts melds winning) place
unfolding readings_of
pick-standard counts melds winning place reading found = sym (slice_get-left (standard_readings counts melds winning) _ place reading found)

pub pick-special : (counts : List ℕ) (melds : List Meld) (winning place rest : ℕ) (empty : Bool) (result : Option Reading) → place ≡ length (standard_readings counts melds winning) + rest →
    empty ≡ eqb (length melds) 0 → empty ≡ true → result ≡ slice_get (pairs_readings counts ++ orphans_readings counts) rest → result ≡ slice_get (readings_of counts melds winning) place
unfolding readings_of
pick-special counts melds winning place rest empty result past is none found =
    found
    ∙ sym (slice_get-right (standard_readings counts melds winning) (pairs_readings counts ++ orphans_readings counts) rest)
    ∙ ap (λ b. slice_get (standard_readings counts melds winning ++ cond b (pairs_readings counts ++ orphans_readings counts) [])
    (length (standard_readings counts melds winning) + rest)) (sym none ∙ is)
    ∙ ap (slice_get (readings_of counts melds winning)) (sym past)

pub pick-none : (counts : List ℕ) (melds : List Meld) (winning place rest : ℕ) (empty : Bool) → place ≡ length (standard_readings counts melds winning) + rest →
    empty ≡ eqb (length melds) 0 → empty ≡ false → None ≡ slice_get (readings_of counts melds winning) place
unfolding readings_of
pick-none counts melds winning place rest empty past is none =
    sym (ap (slice_get (readings_of counts melds winning)) past
    ∙ ap (λ b. slice_get (standard_readings counts melds winning ++ cond b (pairs_readings counts ++ orphans_readings counts) [])
    (length (standard_readings counts melds winning) + rest)) (sym is ∙ none)
    ∙ slice_get-right (standard_readings counts melds winning) [] rest)

-- Adding the readings.
pub adds-no-standard : (old : List Reading) (counts : List ℕ) (melds : List Meld) (winning : ℕ) → 4 < length melds → old ≡ old ++ standard_readings counts melds winning
adds-no-standard old counts melds winning many = sym (ap (λ list. old ++ list) (standard_off counts melds winning many) ∙ append-nil old)

pub adds-standard : (old new : List Reading) (counts numbers : List ℕ) (melds : List Meld) (sets : List Set) (winning left : ℕ) (spot : Spot) → numbers ≡ counts → sets ≡ [] → length melds ≤ 4 →
    left ≡ 4 - length melds → spot ≡ record { kind = 0; first = 0; second = 0; left = left; pair = None } →
    new ≡ old ++ readings_past melds winning sets (ways_from numbers spot) → new ≡ old ++ standard_readings counts melds winning
adds-standard old new counts numbers melds sets winning left spot same none few left_is spot_is adds =
    adds
    ∙ ap (λ (s : Spot). old ++ readings_past melds winning sets (ways_from numbers s)) spot_is
    ∙ ap (λ n. old ++ readings_past melds winning sets (ways numbers 0 0 0 n None)) left_is
    ∙ ap (λ all. old ++ readings_past melds winning all (ways numbers 0 0 0 (4 - length melds) None)) none
    ∙ ap (λ ns. old ++ readings_past melds winning [] (ways ns 0 0 0 (4 - length melds) None)) same
    ∙ ap (λ list. old ++ list) (sym (standard_on counts melds winning few))

pub adds-all : (counts : List ℕ) (melds : List Meld) (winning : ℕ) (first second third : List Reading) → first ≡ [] → second ≡ first ++ standard_readings counts melds winning →
    third ≡ second ++ cond (eqb (length melds) 0) (pairs_readings counts ++ orphans_readings counts) [] → third ≡ readings_of counts melds winning
unfolding readings_of
adds-all counts melds winning first second third none standard special =
    special ∙ ap (λ list. list ++ cond (eqb (length melds) 0) (pairs_readings counts ++ orphans_readings counts) []) (standard ∙ ap (λ list. list ++ standard_readings counts melds winning) none)
