-- What a win is worth fits its fields: its fu, its han and each of its rows.
use Rattle.std.proofs.Common.{◌≡◌, ℕ, zero, suc, ◌+◌, ◌*◌, ◌/◌, ◌<◌, ◌≤◌, ◌==◌, ◌&&◌, not, Bool, true, false, cond, List, [], ◌∷◌, ◌++◌, length, refl, sym, ◌∙◌, subst, arith}
use Rattle.std.specs.Prelude.{Option, Some, None, fold, map, filter, unwrap_or, nat_lt}
use Rattle.std.specs.List.{list_all, range_with_len}
use Rattle.std.proofs.lemmas.Bool.{and_from, lt-ltb}
use Rattle.std.proofs.lemmas.List.Folds.{list_all-append}
use Rattle.std.proofs.lemmas.List.Sums.{sum_by-cons, count_by-le-length}
use Rattle.mj_tiles.specs.Faces.{kind_of, is_red, after_kind}
use Rattle.mj_tiles.specs.Counts.{number_of}
use Rattle.mj_tiles.specs.Terminals.{is_terminal_or_honour}
use Rattle.mj_tiles.specs.declared.meld.Meld.{Meld}
use Rattle.mj_readings.specs.declared.reading.Set.{Set}
use Rattle.mj_readings.specs.declared.reading.SetForm.{SetForm}
use Rattle.mj_readings.specs.declared.reading.SetForm.TheVariants.{Run, Triplet, Kan}
use Rattle.mj_readings.specs.declared.reading.Case.{Case}
use Rattle.mj_readings.specs.declared.reading.Reading.{Reading}
use Rattle.mj_readings.specs.declared.reading.Reading.TheVariants.{Standard, Pairs, Orphans}
use Rattle.mj_readings.specs.AllReadings.{readings_of}
use Rattle.mj_fu.specs.Forms.{is_dragon, is_concealed_at, is_pinfu}
use Rattle.mj_fu.specs.Fu.{form_fu, set_fu, pair_fu, wait_fu, win_fu, to_tens, sum_of_parts, rounded, fu_of}
use Rattle.mj_yaku.specs.Rows.{has_row}
use Rattle.mj_yaku.specs.Han.{han, table, closed_han, open_han, has_yakuman, sum_of_han, han_of_rows}
use Rattle.mj_yaku.specs.SomeYaku.{gives_yaku}
use Rattle.mj_yaku.specs.Yaku.{yaku_of}
use Rattle.mj_yaku.proofs.SomeHan.{most_sum}
use Rattle.mj_lists.proofs.Ranges.{passes}
use Rattle.mj_score.specs.declared.score.Extra.{Extra}
use Rattle.mj_score.specs.declared.score.Score.{Score}
use Rattle.mj_score.specs.Scores.{all_dora, yakuman_score, ordinary_score, score_of_rows, score_of, rows_of, is_better}
use Rattle.mj_score.specs.Worth.{worth_of}
use Rattle.mj_score.specs.Inner.BestAmong.{better_of, with_reading, best_among}
use Rattle.mj_rounds.specs.declared.rounds.Standing.{Standing}
use Rattle.mj_deeds.specs.declared.deed.Deed.{Deed}
use Rattle.mj_rules.specs.Wins.{dora_by, extra_by, Shows, extra_of, no_score, score_of_win, dora_row, dora_rows, rows_of_win}
use Rattle.mj_history.specs.Records.{is_byte, is_row}

-- fu
set_few : (concealed : Bool) (set : Set) → set_fu concealed set ≤ 32
unfolding set_fu
set_few concealed set = by_form set.form concealed (is_terminal_or_honour set.low)
  where
    by_form : (form : SetForm) (b c : Bool) → form_fu form * cond b 2 1 * cond c 2 1 ≤ 32
    by_form Run true true = omega arith
    by_form Run true false = omega arith
    by_form Run false true = omega arith
    by_form Run false false = omega arith
    by_form Triplet true true = omega arith
    by_form Triplet true false = omega arith
    by_form Triplet false true = omega arith
    by_form Triplet false false = omega arith
    by_form Kan true true = omega arith
    by_form Kan true false = omega arith
    by_form Kan false true = omega arith
    by_form Kan false false = omega arith

win_few : (case : Case) → win_fu case ≤ 10
unfolding win_fu
win_few case = by_test case.by_draw case.closed
  where
    by_test : (b c : Bool) → cond b 2 (cond c 10 0) ≤ 10
    by_test true c = omega arith
    by_test false true = omega arith
    by_test false false = omega arith

pair_few : (pair : ℕ) (case : Case) → pair_fu pair case ≤ 6
unfolding pair_fu
pair_few pair case = by_test (is_dragon pair) (pair == case.seat_wind) (pair == case.round_wind)
  where
    by_test : (a b c : Bool) → cond a 2 0 + cond b 2 0 + cond c 2 0 ≤ 6
    by_test true true true = omega arith
    by_test true true false = omega arith
    by_test true false true = omega arith
    by_test true false false = omega arith
    by_test false true true = omega arith
    by_test false true false = omega arith
    by_test false false true = omega arith
    by_test false false false = omega arith

wait_few : (sets : List Set) (win winning : ℕ) → wait_fu sets win winning ≤ 2
unfolding wait_fu
wait_few sets win winning = by_test _
  where
    by_test : (b : Bool) → cond b 2 0 ≤ 2
    by_test true = omega arith
    by_test false = omega arith

parts_few : (a b c d : Set) (pair win winning : ℕ) (case : Case) → sum_of_parts a b c d pair win winning case ≤ 166
unfolding sum_of_parts
parts_few a b c d pair win winning case =
    sum _ _ _ _ _ _ _ (win_few case) (set_few (is_concealed_at 0 win case a) a) (set_few (is_concealed_at 1 win case b) b)
    (set_few (is_concealed_at 2 win case c) c) (set_few (is_concealed_at 3 win case d) d)
    (pair_few pair case) (wait_few (a ∷ b ∷ c ∷ d ∷ []) win winning)
  where
    sum : (w p q r s n m : ℕ) → w ≤ 10 → p ≤ 32 → q ≤ 32 → r ≤ 32 → s ≤ 32 → n ≤ 6 → m ≤ 2 → 20 + w + (p + q + r + s) + n + m ≤ 166
    sum w p q r s n m hw hp hq hr hs hn hm = omega (arith, hw, hp, hq, hr, hs, hn, hm)

rounded_few : (sum : ℕ) (case : Case) → sum ≤ 166 → rounded sum case ≤ 170
unfolding rounded to_tens
rounded_few sum case h = by_test (sum == 20 && not case.closed && not case.by_draw)
  where
    by_test : (b : Bool) → cond b 30 ((sum + 9) / 10 * 10) ≤ 170
    by_test true = omega arith
    by_test false = omega (arith, h)

fu_few : (reading : Reading) (case : Case) → fu_of reading case ≤ 170
unfolding fu_of
fu_few (Standard a b c d pair win winning) case =
    by_test (is_pinfu (Standard a b c d pair win winning) case && case.by_draw) (rounded (sum_of_parts a b c d pair win winning case) case)
    (rounded_few (sum_of_parts a b c d pair win winning case) case (parts_few a b c d pair win winning case))
  where
    by_test : (t : Bool) (n : ℕ) → n ≤ 170 → cond t 20 n ≤ 170
    by_test true n h = omega arith
    by_test false n h = h
fu_few (Pairs kinds) case = omega arith
fu_few (Orphans double) case = omega arith

-- a score
pub record Small (score : Score) : Type 0 where
  pub fu : score.fu < 256
  pub han : score.han < 256

plain_han : (rows : ℕ) (closed : Bool) → has_yakuman rows ≡ false → han_of_rows rows closed ≤ 52
unfolding han_of_rows
plain_han rows closed h = subst (λ b. cond b 100 (sum_of_han rows closed) ≤ 52) (sym h) (most_sum rows closed)

score_small : (rows : ℕ) (reading : Reading) (case : Case) (extra : Extra) → all_dora extra ≤ 198 → Small (score_of_rows rows reading case extra)
unfolding score_of_rows
score_small rows reading case extra h = either (has_yakuman rows) (han_of_rows rows case.closed) (all_dora extra) (fu_of reading case) (plain_han rows case.closed) h (fu_few reading case)
  where
    either : (b : Bool) (n dora fu : ℕ) → (b ≡ false → n ≤ 52) → dora ≤ 198 → fu ≤ 170 → Small (cond b (yakuman_score rows) (ordinary_score rows (n + dora) fu))
    either true n dora fu f h k = record { fu = omega arith; han = omega arith }
    either false n dora fu f h k = let few = f refl in record { fu = omega (arith, k); han = omega (arith, few, h) }

abbrev Few : Option Score → Type 0
Few None = Unit {0}
Few (Some score) = Small score

best_small : (melds : List Meld) (case : Case) (extra : Extra) → all_dora extra ≤ 198 → (readings : List Reading) (best : Option Score) → Few best →
    Few (fold (with_reading melds case extra) best readings)
best_small melds case extra few [] best h = h
best_small melds case extra few (reading ∷ readings) best h =
    best_small melds case extra few readings (with_reading melds case extra best reading) (one (gives_yaku melds case reading) best h)
  where
    better : (b : Bool) (one other : Score) → Small one → Small other → Small (cond b one other)
    better true one other h k = h
    better false one other h k = k

    one : (b : Bool) (best : Option Score) → Few best → Few (cond b (better_of best (score_of melds case extra reading)) best)
    one true None h = score_small (yaku_of reading melds case) reading case extra few
    one true (Some score) h = better (is_better (score_of melds case extra reading) score) (score_of melds case extra reading) score (score_small (yaku_of reading melds case) reading case extra few) h
    one false best h = h

worth_small : (counts : List ℕ) (melds : List Meld) (winning : ℕ) (case : Case) (extra : Extra) → all_dora extra ≤ 198 → Small (unwrap_or (worth_of counts melds winning case extra) no_score)
unfolding worth_of best_among
worth_small counts melds winning case extra few = either (worth_of counts melds winning case extra) (best_small melds case extra few (readings_of counts melds winning) None tt)
  where
    either : (o : Option Score) → Few o → Small (unwrap_or o no_score)
    either None h = record { fu = omega arith; han = omega arith }
    either (Some score) h = h

pub win_small : (now : Standing) (deeds : List Deed) (seat : ℕ) (shows : Shows) → all_dora (extra_of deeds seat shows) ≤ 198 → Small (score_of_win now deeds seat shows)
unfolding score_of_win
win_small now deeds seat shows few = worth_small _ _ _ _ (extra_of deeds seat shows) few

-- dora
pub record FewDora (extra : Extra) : Type 0 where
  pub dora : extra.dora ≤ 90
  pub under : extra.under ≤ 90
  pub red : extra.red ≤ 18

dora_few : (tiles shown : List ℕ) → length tiles ≤ 18 → dora_by shown tiles ≤ 18 * length shown
dora_few tiles [] h = omega arith
dora_few tiles (x ∷ xs) h =
    sum _ _ _ _ _ (sum_by-cons (λ indicator. number_of tiles (after_kind (kind_of indicator))) x xs) (count_by-le-length (λ tile. kind_of tile == after_kind (kind_of x)) tiles) h (dora_few tiles xs h)
  where
    sum : (n a b l m : ℕ) → n ≡ a + b → a ≤ l → l ≤ 18 → b ≤ 18 * m → n ≤ 18 * suc m
    sum n a b l m e h k o = omega (arith, e, h, k, o)

pub extra_few : (shown unders tiles : List ℕ) → length tiles ≤ 18 → length shown ≤ 5 → length unders ≤ 5 → FewDora (extra_by shown unders tiles)
extra_few shown unders tiles h s u = record {
  dora = most _ _ (dora_few tiles shown h) s;
  under = most _ _ (dora_few tiles unders h) u;
  red = less _ _ (count_by-le-length is_red tiles) h;
}
  where
    most : (n m : ℕ) → n ≤ 18 * m → m ≤ 5 → n ≤ 90
    most n m h k = omega (arith, h, k)

    less : (n m : ℕ) → n ≤ m → m ≤ 18 → n ≤ 18
    less n m h k = omega (arith, h, k)

pub all_few : (extra : Extra) → FewDora extra → all_dora extra ≤ 198
all_few extra f = sum _ _ _ f.dora f.under f.red
  where
    sum : (a b c : ℕ) → a ≤ 90 → b ≤ 90 → c ≤ 18 → a + b + c ≤ 198
    sum a b c h k l = omega (arith, h, k, l)

-- rows
a_row : (row number : ℕ) → row < 45 → number < 256 → is_row (row, number) ≡ true
a_row row number h k = and_from (nat_lt row 45) (is_byte number) (lt-ltb row 45 h) (lt-ltb number 256 k)

han_byte : (row : ℕ) (shut : Bool) → row < 45 → nat_lt (han row shut) 256 ≡ true
unfolding han closed_han open_han table
han_byte row true h = passes (λ r. nat_lt (han r true) 256) 45 row refl h
han_byte row false h = passes (λ r. nat_lt (han r false) 256) 45 row refl h

han_rows : (p : ℕ → Bool) (shut : Bool) (from n : ℕ) → from + n ≤ 45 → list_all is_row (map (λ row. (row, han row shut)) (filter p (range_with_len from n))) ≡ true
han_rows p shut from zero h = refl
han_rows p shut from (suc n) h = by_test (p from) (and_from (nat_lt from 45) (is_byte (han from shut)) (lt-ltb from 45 (omega (arith, h)))
    (han_byte from shut (omega (arith, h)))) (han_rows p shut (from + 1) n (omega (arith, h)))
  where
    by_test : (b : Bool) → is_row (from, han from shut) ≡ true → list_all is_row (map (λ row. (row, han row shut)) (filter p (range_with_len (from + 1) n))) ≡ true →
        list_all is_row (map (λ row. (row, han row shut)) (cond b (from ∷ filter p (range_with_len (from + 1) n)) (filter p (range_with_len (from + 1) n)))) ≡ true
    by_test true r rs = and_from (is_row (from, han from shut)) _ r rs
    by_test false r rs = rs

one_dora : (row number : ℕ) → row < 45 → number < 256 → list_all is_row (dora_row row number) ≡ true
one_dora row number h k = by_test (nat_lt 0 number)
  where
    by_test : (b : Bool) → list_all is_row (cond b ((row, number) ∷ []) []) ≡ true
    by_test true = and_from (is_row (row, number)) true (a_row row number h k) refl
    by_test false = refl

all_dora_rows : (extra : Extra) → FewDora extra → list_all is_row (dora_rows extra) ≡ true
all_dora_rows extra f =
    list_all-append is_row (dora_row 28 extra.dora ++ dora_row 29 extra.under) (dora_row 30 extra.red)
    ∙ and_from (list_all is_row (dora_row 28 extra.dora ++ dora_row 29 extra.under)) _
    (list_all-append is_row (dora_row 28 extra.dora) (dora_row 29 extra.under) ∙ and_from (list_all is_row (dora_row 28 extra.dora)) _
    (one_dora 28 extra.dora (omega arith) (less _ f.dora)) (one_dora 29 extra.under (omega arith) (less _ f.under)))
    (one_dora 30 extra.red (omega arith) (least _ f.red))
  where
    less : (n : ℕ) → n ≤ 90 → n < 256
    less n h = omega (arith, h)

    least : (n : ℕ) → n ≤ 18 → n < 256
    least n h = omega (arith, h)

pub rows_fit : (score : Score) (shut : Bool) (extra : Extra) → FewDora extra → list_all is_row (rows_of_win score shut extra) ≡ true
unfolding rows_of_win rows_of
rows_fit score shut extra f =
    list_all-append is_row (map (λ row. (row, han row shut)) (filter (has_row score.yaku) (range_with_len 0 45))) (cond (has_yakuman score.yaku) [] (dora_rows extra))
    ∙ and_from (list_all is_row (map (λ row. (row, han row shut)) (filter (has_row score.yaku) (range_with_len 0 45)))) _
    (han_rows (has_row score.yaku) shut 0 45 (omega arith)) (by_test (has_yakuman score.yaku))
  where
    by_test : (b : Bool) → list_all is_row (cond b [] (dora_rows extra)) ≡ true
    by_test true = refl
    by_test false = all_dora_rows extra f
