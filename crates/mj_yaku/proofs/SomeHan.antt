-- A reading with a yaku has at least one han.
use Rattle.std.proofs.Common.{ℕ, ◌≡◌, ◌<◌, ◌≤◌, ◌+◌, ◌-◌, ◌&&◌, ◌||◌, Bool, true, false, not, List, [], ◌∷◌, Option, Some}
use Rattle.std.proofs.Common.{None, refl, ◌∙◌, ap, arith, zero, suc, eqb, leb, ltb, get_or, length, cond, subst, drop}
use Rattle.std.specs.List.{sum_by, range_with_len, position}
use Rattle.std.proofs.lemmas.Bool.Decides.{nat_tests}
use Rattle.std.proofs.lemmas.List.Sums.{get_or-le-sum_by, sum_by-append, sum_by-cons}
use Rattle.std.proofs.lemmas.List.FromFn.{length-range_with_len, get_or-range_with_len}
use Rattle.mj_tiles.specs.declared.meld.Meld.{Meld}
use Rattle.mj_readings.specs.declared.reading.Case.{Case}
use Rattle.mj_readings.specs.declared.reading.Reading.{Reading}
use Rattle.mj_readings.specs.declared.reading.Reading.TheVariants.{Standard, Pairs, Orphans}
use Rattle.mj_yaku.specs.Rows.{has_row, no_rows, with_row, rows_from}
use Rattle.mj_yaku.specs.Wins.{reach, double_reach, is_ippatsu, menzen_tsumo}
use Rattle.mj_yaku.specs.SetForms.{chiitoitsu}
use Rattle.mj_yaku.specs.Numbers.{iipeikou, ryanpeikou}
use Rattle.mj_fu.specs.Forms.{is_pinfu}
use Rattle.mj_yaku.specs.Han.{han, table, closed_han, open_han, ordinary_numbers, has_yakuman, han_in, sum_of_han, han_of_rows}
use Rattle.mj_yaku.specs.Yaku.{ordinary_rows, yakuman_rows, yaku_of}
use Rattle.mj_fu.specs.Fu.{is_orphans}
use Rattle.mj_yaku.specs.Limits.{kokushi}
use Rattle.std.specs.Option.{option_map_or}
use Rattle.mj_yaku.proofs.Lists.{any_at, place_within, place_first}
use Rattle.mj_yaku.proofs.RowMembers.{has_row-with, has_row-from, some_row}

-- Each row that holds has some han.
all_count : Bool → ℕ → List Bool → Bool
all_count closed row [] = true
all_count closed row (holds ∷ rows) = (leb 1 (han row closed) || not holds) && all_count closed (row + 1) rows

-- In a closed hand every row has some han.
count_closed : (reading : Reading) (case : Case) → all_count true 0 (ordinary_rows reading case) ≡ true
unfolding ordinary_rows han closed_han all_count table
count_closed reading case = refl

reach_open : (case : Case) → case.closed ≡ false → reach case ≡ false
unfolding reach
reach_open case shown = rw shown refl

double_reach_open : (case : Case) → case.closed ≡ false → double_reach case ≡ false
unfolding double_reach
double_reach_open case shown = rw shown refl

ippatsu_open : (case : Case) → case.closed ≡ false → is_ippatsu case ≡ false
unfolding is_ippatsu
ippatsu_open case shown = rw shown refl

menzen_tsumo_open : (case : Case) → case.closed ≡ false → menzen_tsumo case ≡ false
unfolding menzen_tsumo
menzen_tsumo_open case shown = rw shown refl

pinfu_open : (reading : Reading) (case : Case) → case.closed ≡ false → is_pinfu reading case ≡ false
unfolding is_pinfu
pinfu_open (Standard a b c d pair win winning) case shown = rw shown refl
pinfu_open (Pairs kinds) case shown = refl
pinfu_open (Orphans double) case shown = refl

iipeikou_open : (reading : Reading) (case : Case) → case.closed ≡ false → iipeikou reading case ≡ false
unfolding iipeikou
iipeikou_open reading case shown = rw shown refl

chiitoitsu_open : (reading : Reading) (case : Case) → case.closed ≡ false → chiitoitsu reading case ≡ false
unfolding chiitoitsu
chiitoitsu_open reading case shown = rw shown refl

ryanpeikou_open : (reading : Reading) (case : Case) → case.closed ≡ false → ryanpeikou reading case ≡ false
unfolding ryanpeikou
ryanpeikou_open reading case shown = rw shown refl

-- In an open hand each row that can hold has some han.
count_open : (reading : Reading) (case : Case) → case.closed ≡ false → all_count false 0 (ordinary_rows reading case) ≡ true
unfolding ordinary_rows han open_han all_count table
count_open reading case shown =
    simp (
      reach_open case shown,
      double_reach_open case shown,
      ippatsu_open case shown,
      menzen_tsumo_open case shown,
      pinfu_open reading case shown,
      iipeikou_open reading case shown,
      chiitoitsu_open reading case shown,
      ryanpeikou_open reading case shown,
    ) refl

count_any : (reading : Reading) (case : Case) (closed : Bool) → case.closed ≡ closed → all_count closed 0 (ordinary_rows reading case) ≡ true
count_any reading case true is = count_closed reading case
count_any reading case false is = count_open reading case is

-- A row that holds has some han, where all that hold have.
han_at : (closed : Bool) (rows : List Bool) (row place : ℕ) → all_count closed row rows ≡ true → get_or rows place false ≡ true → 1 ≤ han (row + place) closed
unfolding all_count
han_at closed [] row place all holds = absurd (cc)
han_at closed (answer ∷ rows) row zero all holds = first closed row answer (all_count closed (row + 1) rows) all holds
  where
    first : (closed : Bool) (row : ℕ) (answer rest : Bool) → ((leb 1 (han row closed) || not answer) && rest) ≡ true → answer ≡ true → 1 ≤ han (row + zero) closed
    first closed row answer rest all holds =
        let same : row + zero ≡ row = omega arith in
        rw same (grind (arith, nat_tests))
han_at closed (answer ∷ rows) row (suc place) all holds =
    let same : row + suc place ≡ row + 1 + place = omega arith in
    rw same (han_at closed rows (row + 1) place (rest (leb 1 (han row closed) || not answer) (all_count closed (row + 1) rows) all) holds)
  where
    rest : (a b : Bool) → (a && b) ≡ true → b ≡ true
    rest true b h = h
    rest false b h = absurd (cc)

-- A row that holds stands in the list.
within_rows : (rows : List Bool) (place : ℕ) → get_or rows place false ≡ true → place < length rows
within_rows [] place h = absurd (cc)
within_rows (row ∷ rows) zero h = omega arith
within_rows (row ∷ rows) (suc place) h = let rest : place < length rows = within_rows rows place h in omega arith

-- The sum of han is at least the han of a row below 28, and of the two rows after the dora.
sum_low : (f : ℕ → ℕ) (row : ℕ) → row < 28 → f row ≤ sum_by f ordinary_numbers
sum_low f row within =
    let inside : row < length (range_with_len 0 28) = omega (arith, length-range_with_len 0 28) in
    let read : get_or (range_with_len 0 28) row 0 ≡ row = omega (arith, get_or-range_with_len 0 28 row 0 within) in
    let part : f row ≤ sum_by f (range_with_len 0 28) = subst (λ n. f n ≤ sum_by f (range_with_len 0 28)) read (get_or-le-sum_by f (range_with_len 0 28) row 0 inside) in
    omega (arith, sum_by-append f (range_with_len 0 28) (31 ∷ 32 ∷ []))

sum_31 : (f : ℕ → ℕ) → f 31 ≤ sum_by f ordinary_numbers
sum_31 f = omega (arith, sum_by-append f (range_with_len 0 28) (31 ∷ 32 ∷ []))

sum_32 : (f : ℕ → ℕ) → f 32 ≤ sum_by f ordinary_numbers
sum_32 f = omega (arith, sum_by-append f (range_with_len 0 28) (31 ∷ 32 ∷ []))

-- The rows of the dora have no han of their own.
dora_han : (closed : Bool) → (han 28 closed ≡ 0) × (han 29 closed ≡ 0) × (han 30 closed ≡ 0)
unfolding han closed_han open_han table
dora_han true = (refl, refl, refl)
dora_han false = (refl, refl, refl)

no_dora : (closed : Bool) (row : ℕ) → 1 ≤ han row closed → 28 ≤ row → row < 31 → ⊥
no_dora closed row some low high = choose closed row some low high (eqb row 28) (eqb row 29) refl refl
  where
    choose : (closed : Bool) (row : ℕ) → 1 ≤ han row closed → 28 ≤ row → row < 31 → (first second : Bool) → eqb row 28 ≡ first → eqb row 29 ≡ second → ⊥
    choose closed row some low high true second p q =
        let same : row ≡ 28 = grind (arith, nat_tests) in
        omega (arith, subst (λ n. 1 ≤ han n closed) same some, (dora_han closed).0)
    choose closed row some low high false true p q =
        let same : row ≡ 29 = grind (arith, nat_tests) in
        omega (arith, subst (λ n. 1 ≤ han n closed) same some, (dora_han closed).1)
    choose closed row some low high false false p q =
        let same : row ≡ 30 = grind (arith, nat_tests) in
        omega (arith, subst (λ n. 1 ≤ han n closed) same some, (dora_han closed).2)

-- The han of a row with han that a set has is part of the sum.
part_of_sum : (set : ℕ) (closed : Bool) (row : ℕ) → row < 33 → 1 ≤ han row closed → has_row set row ≡ true → 1 ≤ sum_by (han_in set closed) ordinary_numbers
part_of_sum set closed row within some here = choose set closed row within some here (ltb row 28) (eqb row 31) (eqb row 32) refl refl refl
  where
    choose : (set : ℕ) (closed : Bool) (row : ℕ) → row < 33 → 1 ≤ han row closed → has_row set row ≡ true →
        (low first second : Bool) → ltb row 28 ≡ low → eqb row 31 ≡ first → eqb row 32 ≡ second → 1 ≤ sum_by (han_in set closed) ordinary_numbers
    choose set closed row within some here true first second p q r =
        let own : 1 ≤ han_in set closed row = rw here some in
        omega (arith, sum_low (han_in set closed) row (grind (arith, nat_tests)))
    choose set closed row within some here false true second p q r =
        let same : row ≡ 31 = grind (arith, nat_tests) in
        let own : 1 ≤ han_in set closed row = rw here some in
        let there : 1 ≤ han_in set closed 31 = subst (λ n. 1 ≤ han_in set closed n) same own in
        omega (arith, sum_31 (han_in set closed))
    choose set closed row within some here false false true p q r =
        let same : row ≡ 32 = grind (arith, nat_tests) in
        let own : 1 ≤ han_in set closed row = rw here some in
        let there : 1 ≤ han_in set closed 32 = subst (λ n. 1 ≤ han_in set closed n) same own in
        omega (arith, sum_32 (han_in set closed))
    choose set closed row within some here false false false p q r = absurd (no_dora closed row some (grind (arith, nat_tests)) (grind (arith, nat_tests)))

-- A set of one yakuman has a yakuman.
one_yakuman : (row : ℕ) → 33 ≤ row → row < 45 → has_yakuman (with_row no_rows row) ≡ true
unfolding has_yakuman
one_yakuman row low high =
    let inside : row - 33 < length (range_with_len 33 12) = omega (arith, length-range_with_len 33 12) in
    let read : get_or (range_with_len 33 12) (row - 33) row ≡ row = omega (arith, get_or-range_with_len 33 12 (row - 33) row (omega arith)) in
    any_at (has_row (with_row no_rows row)) (range_with_len 33 12) row (row - 33) inside read
    (has_row-with no_rows row row ∙ grind (arith, nat_tests))

-- The first yakuman of a list of twelve, alone.
first_alone : (rows : List Bool) (place : ℕ) → length rows ≡ 12 → position (λ row. row) rows ≡ Some place → has_yakuman (with_row no_rows (33 + place)) ≡ true
first_alone rows place size e =
    let within : place < length rows = place_within rows place e in
    one_yakuman (33 + place) (omega arith) (omega arith)

kokushi_holds : (reading : Reading) (case : Case) → is_orphans reading ≡ true → case.closed ≡ true → kokushi reading case ≡ true
unfolding kokushi
kokushi_holds reading case orphans closed = rw (orphans, closed) refl

kokushi_first : (reading : Reading) (melds : List Meld) (case : Case) → is_orphans reading ≡ true → case.closed ≡ true →
    position (λ row. row) (yakuman_rows reading melds case) ≡ Some 0
unfolding yakuman_rows
kokushi_first reading melds case orphans closed =
    place_first (kokushi reading case) (drop 1 (yakuman_rows reading melds case)) (kokushi_holds reading case orphans closed)

-- Thirteen orphans in a closed hand are a yakuman.
pub yakuman_of_orphans : (reading : Reading) (melds : List Meld) (case : Case) → is_orphans reading ≡ true → case.closed ≡ true →
    has_yakuman (yaku_of reading melds case) ≡ true
unfolding yaku_of
yakuman_of_orphans reading melds case orphans closed =
    ap (λ found. has_yakuman (option_map_or (λ place. with_row no_rows (33 + place)) found (rows_from 0 (ordinary_rows reading case))))
    (kokushi_first reading melds case orphans closed)
    ∙ one_yakuman 33 (omega arith) (omega arith)

twelve : (reading : Reading) (melds : List Meld) (case : Case) → length (yakuman_rows reading melds case) ≡ 12
unfolding yakuman_rows
twelve reading melds case = refl

all_33 : (reading : Reading) (case : Case) → length (ordinary_rows reading case) ≡ 33
unfolding ordinary_rows
all_33 reading case = refl

-- The rows below the yakuman have some han where there are any.
ordinary_han : (reading : Reading) (case : Case) → eqb (rows_from 0 (ordinary_rows reading case)) no_rows ≡ false →
    1 ≤ sum_by (han_in (rows_from 0 (ordinary_rows reading case)) case.closed) ordinary_numbers
ordinary_han reading case some = from reading case (some_row (ordinary_rows reading case) 0 some)
  where
    from : (reading : Reading) (case : Case) → (place : ℕ) × (get_or (ordinary_rows reading case) place false ≡ true) →
        1 ≤ sum_by (han_in (rows_from 0 (ordinary_rows reading case)) case.closed) ordinary_numbers
    from reading case h =
        let place : ℕ = h.0 in
        let within : h.0 < length (ordinary_rows reading case) = within_rows (ordinary_rows reading case) h.0 h.1 in
        let same : 0 + h.0 ≡ h.0 = omega arith in
        let han_there : 1 ≤ han (0 + h.0) case.closed = han_at case.closed (ordinary_rows reading case) 0 h.0 (count_any reading case case.closed refl) h.1 in
        let here : has_row (rows_from 0 (ordinary_rows reading case)) (0 + h.0) ≡ true = has_row-from (ordinary_rows reading case) 0 h.0 ∙ h.1 in
        part_of_sum (rows_from 0 (ordinary_rows reading case)) case.closed h.0 (omega (arith, within, all_33 reading case))
        (subst (λ n. 1 ≤ han n case.closed) same han_there)
        (subst (λ n. has_row (rows_from 0 (ordinary_rows reading case)) n ≡ true) same here)

rest_han : (reading : Reading) (case : Case) (limit : Bool) → eqb (rows_from 0 (ordinary_rows reading case)) no_rows ≡ false →
    1 ≤ cond limit 100 (sum_of_han (rows_from 0 (ordinary_rows reading case)) case.closed)
unfolding sum_of_han
rest_han reading case true some = omega arith
rest_han reading case false some = ordinary_han reading case some

han_by_first : (reading : Reading) (melds : List Meld) (case : Case) (found : Option ℕ) → position (λ row. row) (yakuman_rows reading melds case) ≡ found →
    eqb (option_map_or (λ place. with_row no_rows (33 + place)) found (rows_from 0 (ordinary_rows reading case))) no_rows ≡ false →
    1 ≤ han_of_rows (option_map_or (λ place. with_row no_rows (33 + place)) found (rows_from 0 (ordinary_rows reading case))) case.closed
unfolding han_of_rows
han_by_first reading melds case (Some place) is some =
    rw (first_alone (yakuman_rows reading melds case) place (twelve reading melds case) is) (omega arith)
han_by_first reading melds case None is some = rest_han reading case (has_yakuman (rows_from 0 (ordinary_rows reading case))) some

-- A reading with a yaku has at least one han.
pub some_han : (reading : Reading) (melds : List Meld) (case : Case) → eqb (yaku_of reading melds case) no_rows ≡ false →
    1 ≤ han_of_rows (yaku_of reading melds case) case.closed
unfolding yaku_of
some_han reading melds case some = han_by_first reading melds case (position (λ row. row) (yakuman_rows reading melds case)) refl some

sum_more : (set : ℕ) (closed : Bool) (row : ℕ) (rows : List ℕ) (b : Bool) → has_row set row ≡ b →
    sum_by (han_in set closed) rows ≤ sum_by (λ row. han row closed) rows → sum_by (han_in set closed) (row ∷ rows) ≤ sum_by (λ row. han row closed) (row ∷ rows)
sum_more set closed row rows true is rest =
    let here : han_in set closed row ≤ han row closed = rw is (omega arith) in
    omega (arith, sum_by-cons (han_in set closed) row rows, sum_by-cons (λ row. han row closed) row rows)
sum_more set closed row rows false is rest =
    let here : han_in set closed row ≤ han row closed = rw is (omega arith) in
    omega (arith, sum_by-cons (han_in set closed) row rows, sum_by-cons (λ row. han row closed) row rows)

-- The rows of a set have no more han than all rows.
sum_of_all : (set : ℕ) (closed : Bool) (rows : List ℕ) → sum_by (han_in set closed) rows ≤ sum_by (λ row. han row closed) rows
sum_of_all set closed [] = omega arith
sum_of_all set closed (row ∷ rows) = sum_more set closed row rows (has_row set row) refl (sum_of_all set closed rows)

all_han : (closed : Bool) → sum_by (λ row. han row closed) ordinary_numbers ≤ 52
unfolding han closed_han open_han table
all_han true = omega arith
all_han false = omega arith

-- No ordinary hand has more than 52 han.
pub most_sum : (set : ℕ) (closed : Bool) → sum_of_han set closed ≤ 52
unfolding sum_of_han
most_sum set closed = omega (arith, sum_of_all set closed ordinary_numbers, all_han closed)
