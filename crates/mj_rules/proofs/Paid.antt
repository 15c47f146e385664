-- What a win is worth, and what is paid for it.
use Rattle.std.proofs.Common.{◌≡◌, ℕ, zero, suc, ◌+◌, ◌-◌, ◌<◌, ◌==◌, ◌&&◌, not, Bool, true, false, cond, eqb, ltb, List}
use Rattle.std.proofs.Common.{[], ◌∷◌, ◌++◌, length, refl, ap, sym, ◌∙◌, subst, arith, append-nil, append_assoc}
use Rattle.std.specs.Prelude.{if◌then◌else◌, Option, Some, None, is_some, option_and_then, option_to_list, unwrap_or, count_by, filter, flat_map, fold, map, All, ℤ, pos}
use Rattle.std.specs.List.{list_all, range_with_len, slice_index_or}
use Rattle.std.proofs.lemmas.Bool.{and_from, and_parts, ne_eqb, not-false, ltb-true, lt-ltb, true≢false}
use Rattle.std.proofs.lemmas.Grind.{flat_map-append}
use Rattle.std.proofs.lemmas.List.{length-append}
use Rattle.std.proofs.lemmas.List.FromFn.{length-map-range_with_len, get_or-map-range_with_len}
use Rattle.std.proofs.lemmas.List.Elements.{All-nil, All-cons, filter-append}
use Rattle.mj_tiles.specs.Faces.{kind_of, number_in, less, in_tile_order}
use Rattle.mj_tiles.specs.Counts.{all_kinds, number_of, kind_counts}
use Rattle.mj_tiles.specs.Melds.{tiles_of_meld}
use Rattle.mj_tiles.specs.declared.meld.Meld.{Meld}
use Rattle.mj_tiles.proofs.CountSteps.{number_of-push}
use Rattle.mj_wall.proofs.TileOrder.{number-cons, count_by-in_tile_order}
use Rattle.mj_rounds.specs.declared.rounds.Standing.{Standing}
use Rattle.mj_readings.specs.declared.reading.Case.{Case}
use Rattle.mj_readings.specs.declared.reading.Reading.{Reading}
use Rattle.mj_readings.specs.AllReadings.{readings_of}
use Rattle.mj_yaku.specs.Han.{has_yakuman, han}
use Rattle.mj_yaku.specs.SomeYaku.{gives_yaku}
use Rattle.mj_pay.specs.Payments.{ron_change, ron_changes, drawn_change, drawn_changes}
use Rattle.mj_score.specs.declared.score.Extra.{Extra}
use Rattle.mj_score.specs.declared.score.Score.{Score}
use Rattle.mj_score.specs.Scores.{score_of, rows_of, is_better}
use Rattle.mj_score.specs.Worth.{worth_of}
use Rattle.mj_score.specs.Inner.BestAmong.{better_of, with_reading, best_among}
use Rattle.mj_deeds.specs.declared.four.Four.{Four}
use Rattle.mj_deeds.specs.declared.answer.Answer.{Answer}
use Rattle.mj_deeds.specs.declared.answer.Answer.TheVariants as answers
use Rattle.mj_deeds.specs.declared.deed.Deed.{Deed}
use Rattle.mj_deeds.specs.declared.deed.Deed.TheVariants.{Draw, Discard, Chi, Pon, AddedKan, Reach, Win}
use Rattle.mj_deeds.specs.Course.{before_wins, is_offer}
use Rattle.mj_deeds.specs.Ends.{winners_by, winners}
use Rattle.mj_deeds.specs.Facts.{newest, before_newest, indicators, holds_drawn, tiles_gained, tiles_lost, concealed_tiles, seat_melds}
use Rattle.mj_deeds.specs.Fits.{all_fit, is_face, is_in_hand}
use Rattle.mj_deeds.specs.Four.{at_seat}
use Rattle.mj_deeds.specs.Hand.{hand}
use Rattle.mj_deeds.specs.Points.{deposits}
use Rattle.mj_deeds.specs.Points.{is_win as is_win_deed}
use Rattle.mj_deeds.specs.Riichi.{is_in_riichi}
use Rattle.mj_deeds.specs.Standings.{standing}
use Rattle.mj_deeds.proofs.Fitted.{hand_begun, hand_real}
use Rattle.mj_deeds.proofs.HandSteps.{hand_is, standing_stays}
use Rattle.mj_deeds.proofs.RealTiles.{less_passes, gained_real}
use Rattle.mj_wall.specs.Places.{is_wall, under_tile}
use Rattle.mj_wall.specs.declared.setting.Rules.{Rules}
use Rattle.mj_window.specs.Decided.{decision_by}
use Rattle.mj_rules.specs.Broken.{is_win, is_open, is_not_complete, is_no_yaku, has_no_yaku, winning_kinds, won_tiles, offered_in, questions, broken_by}
use Rattle.mj_rules.specs.Outcome.{own_act, won_tile, follows, outcome, wall_of, wall_now}
use Rattle.mj_rules.specs.Paid.{worth_by, LawfulWinsAreWorth, ShowsUnders, extra_shown, dora_listed, rows_listed, points_then, IsPaid, FirstRonIsPaid, FurtherRonsArePaid, OwnWinIsPaid}
use Rattle.mj_rules.specs.Played.{IsLawful, AllLawful, IsPlayed}
use Rattle.mj_rules.specs.Precedence.{wins_by, behind, winners_behind, offer_of}
use Rattle.mj_rules.specs.View.{WindowTurn, turn_by, view_of}
use Rattle.mj_rules.specs.Wins.{is_draw, case_of, own_tiles_of, unders_of, Shows, extra_by, extra_of, dora_row, dora_rows, no_score}
use Rattle.mj_rules.specs.Wins.{score_of_win, rows_of_win, win_changes, value_of_win, for_first, win_shown, win_deed}
use Rattle.mj_rules.proofs.Balance.{is_unwon, nobody_yet}
use Rattle.mj_rules.proofs.Given.{small_face}
use Rattle.mj_rules.proofs.Questions.{all_no}
use Rattle.mj_rules.proofs.Playing.{played_sound}
use Rattle.mj_rules.proofs.Precedence.{all_wins_come}
use Rattle.mj_rules.proofs.Promises.{newest_in}
use Rattle.mj_rules.proofs.TilesLess.{without, number_without, count_without, less_both}
use Rattle.mj_rules.proofs.Turns.{turn_is, turn_below, filter_passes}
use Rattle.mj_rules.proofs.Winners.{holds, own_offered, own_drawn}

-- a lawful win is worth something

-- Some reading that has a yaku has a score.
score_stays : (melds : List Meld) (case : Case) (extra : Extra) (readings : List Reading) (score : Score) → is_some (fold (with_reading melds case extra) (Some score) readings) ≡ true
score_stays melds case extra [] score = refl
score_stays melds case extra (reading ∷ readings) score = by_test (gives_yaku melds case reading) (λ best. score_stays melds case extra readings best)
  where
    by_test : (b : Bool) → ((best : Score) → is_some (fold (with_reading melds case extra) (Some best) readings) ≡ true) →
        is_some (fold (with_reading melds case extra) (if b then better_of (Some score) (score_of melds case extra reading) else Some score) readings) ≡ true
    by_test true stays = stays (if is_better (score_of melds case extra reading) score then score_of melds case extra reading else score)
    by_test false stays = stays score

some_score : (melds : List Meld) (case : Case) (extra : Extra) (readings : List Reading) → list_all (λ reading. not (gives_yaku melds case reading))
    readings ≡ false → is_some (fold (with_reading melds case extra) None readings) ≡ true
some_score melds case extra [] h = cc
some_score melds case extra (reading ∷ readings) h = by_test (gives_yaku melds case reading) (λ rest. some_score melds case extra readings rest) h
  where
    by_test : (b : Bool) → (list_all (λ r. not (gives_yaku melds case r)) readings ≡ false →
        is_some (fold (with_reading melds case extra) None readings) ≡ true) → (not b && list_all (λ r. not (gives_yaku melds case r)) readings) ≡
        false →
        is_some (fold (with_reading melds case extra) (if b then better_of None (score_of melds case extra reading) else None) readings) ≡ true
    by_test true more h = score_stays melds case extra readings (score_of melds case extra reading)
    by_test false more h = more h

-- In a window where a win is open the winning kind is that of the tile of the newest deed.
kinds_at : (rules : Rules) (seat : ℕ) (before : Option Deed) (last : Deed) (accepted : Bool) (answer : Answer) → is_win answer ≡ true → is_open rules seat (turn_by last) accepted answer ≡ true →
    flat_map (λ tile. kind_of tile ∷ []) (option_to_list (holds_drawn seat before last) ++ offered_in (turn_by last)) ≡ kind_of (won_tile last) ∷ []
kinds_at rules seat before (Draw who tile replacement) accepted (answers.Win actor target t) w h = by_test (who == seat) h
  where
    by_test : (b : Bool) → (if b then true else false) ≡ true → flat_map (λ t. kind_of t ∷ []) (option_to_list (if b then Some tile else None) ++ []) ≡ kind_of tile ∷ []
    by_test true h = refl
    by_test false h = cc
kinds_at rules seat before (Discard who tile drawn) accepted (answers.Win actor target t) w h = refl
kinds_at rules seat before (AddedKan who tile a b c) accepted (answers.Win actor target t) w h = refl
kinds_at rules seat before (Reach who) accepted (answers.Win actor target t) w h = by_test (who == seat) h
  where
    by_test : {A : Type 0} (b : Bool) → (if b then false else false) ≡ true → A
    by_test true h = cc
    by_test false h = cc
kinds_at rules seat before (Chi who target tile a b) accepted (answers.Win actor from t) w h = by_test (who == seat) h
  where
    by_test : {A : Type 0} (b : Bool) → (if b then false else false) ≡ true → A
    by_test true h = cc
    by_test false h = cc
kinds_at rules seat before (Pon who target tile a b) accepted (answers.Win actor from t) w h = by_test (who == seat) h
  where
    by_test : {A : Type 0} (b : Bool) → (if b then false else false) ≡ true → A
    by_test true h = cc
    by_test false h = cc
kinds_at rules seat before other accepted (answers.Win actor target t) w h = cc
kinds_at rules seat before last accepted other w h = cc

-- What a lawful answer doesn't break.
pub record Wins (rules : Rules) (deeds : List Deed) (seat : ℕ) (answer : Answer) : Type 0 where
  pub opens : is_open rules seat (view_of deeds seat).turn (view_of deeds seat).accepted answer ≡ true
  pub complete : is_not_complete (view_of deeds seat) answer ≡ false
  pub yaku : is_no_yaku (view_of deeds seat) answer ≡ false

pub lawful_wins : (rules : Rules) (deeds : List Deed) (seat : ℕ) (answer : Answer) → IsLawful rules deeds seat answer → Wins rules deeds seat answer
unfolding broken_by
lawful_wins rules deeds seat answer lawful =
    let u = all_no (questions rules seat (view_of deeds seat) answer) lawful.clean in
    record {
      opens = not-false (is_open rules seat (view_of deeds seat).turn (view_of deeds seat).accepted answer) u.1.1.0;
      complete = u.1.1.1.1.1.1.1.1.1.1.1.1.1.1.1.1.1.1.1.1.0;
      yaku = u.1.1.1.1.1.1.1.1.1.1.1.1.1.1.1.1.1.1.1.1.1.1.0;
    }

kinds_are : (rules : Rules) (deeds : List Deed) (last : Deed) (seat : ℕ) (answer : Answer) → newest deeds ≡ Some last → is_win answer ≡ true →
    IsLawful rules deeds seat answer → winning_kinds (view_of deeds seat) ≡ kind_of (won_tile last) ∷ []
unfolding view_of
kinds_are rules deeds last seat answer e win lawful =
    (λ i. flat_map (λ tile. kind_of tile ∷ []) (option_to_list (option_and_then (holds_drawn seat (before_newest deeds)) (e i)) ++ offered_in (turn_is deeds seat last e i)))
    ∙ kinds_at rules seat (before_newest deeds) last (view_of deeds seat).accepted answer win
    (ap (λ (turn : WindowTurn). is_open rules seat turn (view_of deeds seat).accepted answer) (sym (turn_is deeds seat last e)) ∙ (lawful_wins rules deeds seat answer lawful).opens)

both_fail : (a b : Bool) → (a && b) ≡ false → a ≡ true → b ≡ false
both_fail true b h e = h
both_fail false b h e = cc

one_fails : (a : Bool) → (a && true) ≡ false → a ≡ false
one_fails true h = cc
one_fails false h = refl

pub lawful_wins_are_worth : LawfulWinsAreWorth
unfolding has_no_yaku worth_of best_among
lawful_wins_are_worth rules deeds last seat answer extra e win lawful =
    some_score (view_of deeds seat).melds (view_of deeds seat).case extra (readings_of (kind_counts (won_tiles (view_of deeds seat))) (view_of deeds seat).melds (kind_of (won_tile last)))
    (one_fails (has_no_yaku (view_of deeds seat) (kind_of (won_tile last)))
    (ap (λ (kinds : List ℕ). list_all (has_no_yaku (view_of deeds seat)) kinds) (sym (kinds_are rules deeds last seat answer e win lawful))
    ∙ both_fail (is_win answer) (list_all (has_no_yaku (view_of deeds seat)) (winning_kinds (view_of deeds seat))) (lawful_wins rules deeds seat answer lawful).yaku win))

-- the first who wins on a tile

pub none_won : (hs : List Deed) → winners hs ≡ [] → before_wins hs ≡ hs
none_won [] e = refl
none_won (Win who target tile unders own yaku fu han value deltas said rest ∷ hs) e = cc
none_won (other ∷ hs) e = ap (λ (xs : List Deed). other ∷ xs) (none_won hs e)

first_passes : (test : ℕ → Bool) (xs : List ℕ) (first : ℕ) (others : List ℕ) → filter test xs ≡ first ∷ others → test first ≡ true
first_passes test [] first others e = cc
first_passes test (x ∷ xs) first others e = by_test (test x) refl (λ f. first_passes test xs first others f) e
  where
    first_is : (x : ℕ) (ys : List ℕ) → x ∷ ys ≡ first ∷ others → x ≡ first
    first_is x ys e = cc

    by_test : (b : Bool) → test x ≡ b → (filter test xs ≡ first ∷ others → test first ≡ true) → cond b (x ∷ filter test xs) (filter test xs) ≡ first ∷ others → test first ≡ true
    by_test true t more e = ap test (sym (first_is x (filter test xs) e)) ∙ t
    by_test false t more e = more e

first_seated : (who : ℕ) (given : Four Answer) (first : ℕ) (others : List ℕ) → winners_behind who given ≡ first ∷ others → first < 4
first_seated who given first others e =
    ltb-true first 4 (and_parts _ _ (ap (list_all (λ seat. ltb seat 4)) (sym e)
    ∙ filter_passes (wins_by given) (λ seat. ltb seat 4) (behind who) (all_below (turn_below (who + 1)) (turn_below (who + 2)) (turn_below (who + 3))))).0
  where
    all_below : {a b c : Bool} → a ≡ true → b ≡ true → c ≡ true → (a && (b && (c && true))) ≡ true
    all_below e f g = rw (e, f, g) refl

lawful_at : (rules : Rules) (deeds : List Deed) (given : Four Answer) (seat : ℕ) → seat < 4 → AllLawful rules deeds given → IsLawful rules deeds seat (at_seat given seat)
lawful_at rules deeds given zero h c = c.first
lawful_at rules deeds given (suc zero) h c = c.second
lawful_at rules deeds given (suc (suc zero)) h c = c.third
lawful_at rules deeds given (suc (suc (suc zero))) h c = c.fourth
lawful_at rules deeds given (suc (suc (suc (suc n)))) h c = absurd (omega arith)

-- The tile that is offered.
pub record Offers (deeds : List Deed) (who tile : ℕ) : Type 0 where
  pub last : Deed
  pub newest_is : newest deeds ≡ Some last
  pub offers : is_offer last ≡ true
  pub goes_on : is_in_hand (Some last) ≡ true
  pub tile_is : won_tile last ≡ tile
  pub offered : offered_in (turn_by last) ≡ tile ∷ []

offers_of : (deeds : List Deed) (who tile : ℕ) → option_and_then offer_of (newest deeds) ≡ Some (who, tile) → Offers deeds who tile
offers_of deeds who tile e = by_newest (newest deeds) refl e
  where
    second_is : (a b : ℕ) → ◌≡◌ {A = Option (ℕ × ℕ)} (Some (a, b)) (Some (who, tile)) → b ≡ tile
    second_is a b e = ap (λ (o : Option (ℕ × ℕ)). (unwrap_or o (0, 0)).1) e

    by_newest : (o : Option Deed) → newest deeds ≡ o → option_and_then offer_of o ≡ Some (who, tile) → Offers deeds who tile
    by_newest None n e = cc
    by_newest (Some (Discard seat t drawn)) n e =
        record { last = Discard seat t drawn; newest_is = n; offers = refl; goes_on = refl; tile_is = second_is seat t e; offered = ap (λ (x : ℕ). x ∷ []) (second_is seat t e) }
    by_newest (Some (AddedKan seat t a b c)) n e =
        record { last = AddedKan seat t a b c; newest_is = n; offers = refl; goes_on = refl; tile_is = second_is seat t e; offered = ap (λ (x : ℕ). x ∷ []) (second_is seat t e) }
    by_newest (Some other) n e = cc

offer_no_draw : (d : Deed) → is_offer d ≡ true → is_draw (Some d) ≡ false
offer_no_draw (Draw who t replacement) h = cc
offer_no_draw other h = refl

-- Nobody has won in a hand in which a tile is offered.
offer_unwon : (d : Deed) → is_offer d ≡ true → is_unwon d ≡ true
offer_unwon (Discard who t drawn) h = refl
offer_unwon (AddedKan who t a b c) h = refl
offer_unwon other h = cc

pub there_is : {A : Type 0} (o : Option A) → is_some o ≡ true → (x : A) × (o ≡ Some x)
there_is None h = cc
there_is (Some x) h = (x, refl)

-- What the winner shows.
abbrev shows_at : List ℕ → List Deed → ℕ → ℕ → Shows
shows_at wall deeds seat tile = record { own = own_tiles_of (before_wins (hand deeds)) seat tile; tile = tile; unders = unders_of wall (before_wins (hand deeds)) seat }

-- The hidden indicators are those under the shown ones, in riichi alone.
unders_are : (wall : List ℕ) (hs : List Deed) (seat : ℕ) → ShowsUnders wall hs seat (unders_of wall hs seat)
unders_are wall hs seat = by_riichi (is_in_riichi hs seat) refl
  where
    shown : List ℕ
    shown = map (under_tile wall) (range_with_len 0 (length (indicators hs)))

    by_riichi : (b : Bool) → is_in_riichi hs seat ≡ b → ShowsUnders wall hs seat (cond b shown [])
    by_riichi true is = record {
      as_many = λ _. length-map-range_with_len (under_tile wall) 0 (length (indicators hs));
      each = λ _ place low. get_or-map-range_with_len (under_tile wall) 0 (length (indicators hs)) place place 0 low (omega arith);
      without_riichi = λ no. absurd (true≢false (sym is ∙ no));
    }
    by_riichi false is = record {
      as_many = λ yes. absurd (true≢false (sym yes ∙ is));
      each = λ yes. absurd (true≢false (sym yes ∙ is));
      without_riichi = λ _. refl;
    }

-- The rows are listed as the law says.
rows_are : (score : Score) (closed : Bool) (extra : Extra) → rows_of_win score closed extra ≡ rows_listed score closed extra
unfolding rows_of_win
rows_are score closed extra = ap (λ (rows : List (ℕ × ℕ)). map (λ row. (row, han row closed)) (rows_of score.yaku) ++ rows) (by_yakuman (has_yakuman score.yaku))
  where
    one : (row number : ℕ) (rows others : List (ℕ × ℕ)) → rows ≡ others → dora_row row number ++ rows ≡ cond (ltb 0 number) ((row, number) ∷ others) others
    one row number rows others e = by_test (ltb 0 number)
      where
        by_test : (b : Bool) → cond b ((row, number) ∷ []) [] ++ rows ≡ cond b ((row, number) ∷ others) others
        by_test true = ap (λ (xs : List (ℕ × ℕ)). (row, number) ∷ xs) e
        by_test false = e

    by_yakuman : (b : Bool) → cond b [] (dora_rows extra) ≡ dora_listed b extra
    by_yakuman true = refl
    by_yakuman false =
        append_assoc (dora_row 28 extra.dora) (dora_row 29 extra.under) (dora_row 30 extra.red)
        ∙ one 28 extra.dora _ _ (one 29 extra.under _ _ (sym (append-nil (dora_row 30 extra.red)) ∙ one 30 extra.red [] [] refl))

-- Without honba and deposits a win costs its winner nothing, and its value is what it brings.
gained_is : (by_draw : Bool) (seat target dealer base : ℕ) → slice_index_or (win_changes by_draw seat target dealer base 0 0) seat (pos 0) ≡ pos (value_of_win by_draw seat target dealer base)
unfolding win_changes ron_changes ron_change drawn_changes drawn_change
gained_is true zero target dealer base = refl
gained_is true (suc zero) target dealer base = refl
gained_is true (suc (suc zero)) target dealer base = refl
gained_is true (suc (suc (suc zero))) target dealer base = refl
gained_is true (suc (suc (suc (suc seat)))) target dealer base = refl
gained_is false zero target dealer base = refl
gained_is false (suc zero) target dealer base = refl
gained_is false (suc (suc zero)) target dealer base = refl
gained_is false (suc (suc (suc zero))) target dealer base = refl
gained_is false (suc (suc (suc (suc seat)))) target dealer base = refl

-- What a win is paid, where the hand before the winners is that of the window in which its seat said so: its worth there.
record Settles (wall : List ℕ) (window deeds : List Deed) (seat target tile : ℕ) (own : List ℕ) (payments : ℕ → ℕ → ℕ → List ℤ) (honba laid : ℕ) : Type 0 where
  before : before_wins (hand deeds) ≡ hand window
  now_is : standing deeds ≡ standing window
  own_is : own_tiles_of (before_wins (hand deeds)) seat tile ≡ own
  counts : kind_counts (own_tiles_of (before_wins (hand deeds)) seat tile ++ tile ∷ []) ≡ kind_counts (won_tiles (view_of window seat))
  worth : (extra : Extra) → is_some (worth_by (view_of window seat) tile extra) ≡ true
  honba_is : for_first (hand deeds) (standing deeds).honba ≡ honba
  laid_is : for_first (hand deeds) (deposits deeds) ≡ laid
  pays : (base number sum : ℕ) → win_changes (case_of (standing deeds) (before_wins (hand deeds)) seat).by_draw seat target (standing deeds).dealer base number sum ≡ payments base number sum

same_extra : (wall : List ℕ) (window deeds : List Deed) (seat tile : ℕ) (own : List ℕ) → before_wins (hand deeds) ≡ hand window → own_tiles_of (before_wins (hand deeds)) seat tile ≡ own →
    extra_of (before_wins (hand deeds)) seat (shows_at wall deeds seat tile) ≡ extra_shown window seat tile (unders_of wall (before_wins (hand deeds)) seat) own
unfolding view_of
same_extra wall window deeds seat tile own before own_is =
    let unders : List ℕ = unders_of wall (before_wins (hand deeds)) seat in
    (λ i. extra_by (indicators (before i)) unders (own_is i ++ tile ∷ flat_map tiles_of_meld (seat_melds (before i) seat)))

same_worth : (wall : List ℕ) (window deeds : List Deed) (seat target tile : ℕ) (own : List ℕ) (payments : ℕ → ℕ → ℕ → List ℤ) (honba laid : ℕ) →
    Settles wall window deeds seat target tile own payments honba laid →
    let shows = shows_at wall deeds seat tile in
    worth_of (kind_counts (shows.own ++ tile ∷ [])) (seat_melds (before_wins (hand deeds)) seat) (kind_of tile)
    (case_of (standing deeds) (before_wins (hand deeds)) seat) (extra_of (before_wins (hand deeds)) seat shows)
    ≡ worth_by (view_of window seat) tile (extra_shown window seat tile shows.unders own)
unfolding view_of
same_worth wall window deeds seat target tile own payments honba laid s =
    let extra_is = same_extra wall window deeds seat tile own s.before s.own_is in
    (λ i. worth_of (s.counts i) (seat_melds (s.before i) seat) (kind_of tile) (case_of (s.now_is i) (s.before i) seat) (extra_is i))

closed_is : (window deeds : List Deed) (seat : ℕ) → before_wins (hand deeds) ≡ hand window → standing deeds ≡ standing window →
    (case_of (standing deeds) (before_wins (hand deeds)) seat).closed ≡ (view_of window seat).case.closed
unfolding view_of
closed_is window deeds seat before now_is = (λ i. (case_of (now_is i) (before i) seat).closed)

settled : (wall : List ℕ) (window deeds : List Deed) (seat target tile : ℕ) (own : List ℕ) (payments : ℕ → ℕ → ℕ → List ℤ) (honba laid : ℕ) (rest : List ℕ) →
    Settles wall window deeds seat target tile own payments honba laid → IsPaid wall window deeds seat target tile own payments honba laid rest (win_deed wall deeds seat target tile rest)
unfolding win_shown score_of_win
settled wall window deeds seat target tile own payments honba laid rest s =
    let shows : Shows = shows_at wall deeds seat tile in
    let now = standing deeds in
    let before : List Deed = before_wins (hand deeds) in
    let extra : Extra = extra_shown window seat tile shows.unders own in
    let extra_is : extra_of before seat shows ≡ extra = same_extra wall window deeds seat tile own s.before s.own_is in
    let some = there_is (worth_by (view_of window seat) tile extra) (s.worth extra) in
    let score : Score = score_of_win now before seat shows in
    let score_is : score ≡ some.0 = ap (λ (o : Option Score). unwrap_or o no_score) (same_worth wall window deeds seat target tile own payments honba laid s ∙ some.1) in
    let by_draw : Bool = (case_of now before seat).by_draw in
    let closed : (case_of now before seat).closed ≡ (view_of window seat).case.closed = closed_is window deeds seat s.before s.now_is in
    let changes : ℕ → List ℤ = λ base. win_changes by_draw seat target now.dealer base (for_first (hand deeds) now.honba) (for_first (hand deeds) (deposits deeds)) in
    let changes_are : changes score.base ≡ payments some.0.base honba laid =
    (λ i. win_changes by_draw seat target now.dealer (score_is i).base (s.honba_is i) (s.laid_is i)) ∙ s.pays some.0.base honba laid in
    let rows : rows_of_win score (case_of now before seat).closed (extra_of before seat shows) ≡ rows_listed some.0 (view_of window seat).case.closed extra =
    (λ i. rows_of_win (score_is i) (closed i) (extra_is i)) ∙ rows_are some.0 (view_of window seat).case.closed extra in
    let value_is : value_of_win by_draw seat target now.dealer score.base ≡ value_of_win by_draw seat target now.dealer some.0.base =
    (λ i. value_of_win by_draw seat target now.dealer (score_is i).base) in
    record {
      unders = shows.unders;
      shown = subst (λ (hs : List Deed). ShowsUnders wall hs seat shows.unders) s.before (unders_are wall before seat);
      score = some.0;
      worth = some.1;
      value = value_of_win by_draw seat target now.dealer some.0.base;
      brings = ap (λ (gains : List ℤ). slice_index_or gains seat (pos 0)) (sym (s.pays some.0.base 0 0)) ∙ gained_is by_draw seat target now.dealer some.0.base;
      is = (λ i. Win seat target tile shows.unders (s.own_is i) (rows i) (score_is i).fu (score_is i).han (value_is i) (changes_are i) (points_then deeds (changes_are i)) rest);
    }

no_draw_case : (now : Standing) (hs : List Deed) (seat : ℕ) (d : Deed) → newest hs ≡ Some d → is_offer d ≡ true → (case_of now hs seat).by_draw ≡ false
unfolding case_of
no_draw_case now hs seat d e offers = ap is_draw e ∙ offer_no_draw d offers

draw_case : (now : Standing) (hs : List Deed) (seat who tile : ℕ) (replacement : Bool) → newest hs ≡ Some (Draw who tile replacement) → (case_of now hs seat).by_draw ≡ true
unfolding case_of
draw_case now hs seat who tile replacement e = ap is_draw e

for_first_none : (hs : List Deed) (n : ℕ) → winners hs ≡ [] → for_first hs n ≡ n
for_first_none hs n e = ap (λ (xs : List ℕ). if length xs == 0 then n else 0) e

-- The own tiles of a ron are all that its seat holds.
ron_own : (window deeds : List Deed) (seat who tile : ℕ) → Offers window who tile → newest (hand window) ≡ newest window → before_wins (hand deeds) ≡ hand window →
    own_tiles_of (before_wins (hand deeds)) seat tile ≡ concealed_tiles (hand window) seat
ron_own window deeds seat who tile offer there before =
    own_offered (before_wins (hand deeds)) offer.last seat tile (ap newest before ∙ there ∙ offer.newest_is) offer.offers ∙ ap (λ (hs : List Deed). concealed_tiles hs seat) before

-- The tiles of a ron are those that are looked at in its window.
pub ron_counts : (window deeds : List Deed) (seat who tile : ℕ) → Offers window who tile → newest (hand window) ≡ newest window → before_wins (hand deeds) ≡ hand window →
    kind_counts (own_tiles_of (before_wins (hand deeds)) seat tile ++ tile ∷ []) ≡ kind_counts (won_tiles (view_of window seat))
unfolding view_of
ron_counts window deeds seat who tile offer there before =
    (λ i. kind_counts (ron_own window deeds seat who tile offer there before i ++ sym (ap offered_in (turn_is window seat offer.last offer.newest_is) ∙ offer.offered) i))

ron_pays : (now : Standing) (hs : List Deed) (seat who : ℕ) → (case_of now hs seat).by_draw ≡ false → (base number sum : ℕ) →
    win_changes (case_of now hs seat).by_draw seat who now.dealer base number sum ≡ ron_changes seat who now.dealer base number sum
unfolding win_changes
ron_pays now hs seat who no_draw base number sum = (λ i. win_changes (no_draw i) seat who now.dealer base number sum)

-- What is known of a window in which a tile is offered, after played deeds.
pub newest_there : (rules : Rules) (walls : List (List ℕ)) (deeds : List Deed) → ((number : ℕ) → is_wall rules.red (wall_of walls number) ≡ true) →
    IsPlayed rules walls deeds → is_in_hand (newest deeds) ≡ true → newest (hand deeds) ≡ newest deeds
newest_there rules walls deeds whole played begun = newest_in deeds begun (hand_begun rules.red deeds (played_sound rules walls deeds whole played).fit begun)

offer_worth : (rules : Rules) (deeds : List Deed) (seat who tile : ℕ) (answer : Answer) → Offers deeds who tile → is_win answer ≡ true →
    IsLawful rules deeds seat answer → (extra : Extra) → is_some (worth_by (view_of deeds seat) tile extra) ≡ true
offer_worth rules deeds seat who tile answer offer win lawful extra =
    ap (λ (t : ℕ). is_some (worth_by (view_of deeds seat) t extra)) (sym offer.tile_is) ∙ lawful_wins_are_worth rules deeds offer.last seat answer extra offer.newest_is win lawful

pub first_ron_is_paid : FirstRonIsPaid
first_ron_is_paid rules walls deeds given who tile first others whole played lawful offered winners_are =
    let offer : Offers deeds who tile = offers_of deeds who tile offered in
    let nobody : winners (hand deeds) ≡ [] = nobody_yet rules walls deeds offer.last whole played offer.newest_is (offer_unwon offer.last offer.offers) in
    let there : newest (hand deeds) ≡ newest deeds = newest_there rules walls deeds whole played (ap is_in_hand offer.newest_is ∙ offer.goes_on) in
    let before : before_wins (hand deeds) ≡ hand deeds = none_won (hand deeds) nobody in
    let win : is_win (at_seat given first) ≡ true = first_passes (wins_by given) (behind who) first others winners_are in
    let own : IsLawful rules deeds first (at_seat given first) = lawful_at rules deeds given first (first_seated who given first others winners_are) lawful in
    record {
      deed = win_deed (wall_now walls deeds) deeds first who tile others;
      comes = all_wins_come rules walls deeds given who tile first others offered winners_are;
      paid = settled (wall_now walls deeds) deeds deeds first who tile _ _ _ _ others (record {
        before = before;
        now_is = refl;
        own_is = ron_own deeds deeds first who tile offer there before;
        counts = ron_counts deeds deeds first who tile offer there before;
        worth = offer_worth rules deeds first who tile (at_seat given first) offer win own;
        honba_is = for_first_none (hand deeds) (standing deeds).honba nobody;
        laid_is = for_first_none (hand deeds) (deposits deeds) nobody;
        pays = ron_pays (standing deeds) (before_wins (hand deeds)) first who (no_draw_case (standing deeds) (before_wins (hand deeds)) first
            offer.last (ap newest before ∙ there ∙ offer.newest_is) offer.offers);
      });
    }

-- those who win after it

-- Wins are of the hand of the window, and leave the game where it stands.
record Behind (window wins : List Deed) : Type 0 where
  hand_is : hand (window ++ wins) ≡ hand window ++ wins
  now_is : standing (window ++ wins) ≡ standing window

some_hand : (hs : List Deed) (d : Deed) → hs ++ d ∷ [] ≡ [] → ⊥
some_hand [] d e = cc
some_hand (h ∷ hs) d e = cc

behind_wins : (window wins : List Deed) → (hand window ≡ [] → ⊥) → list_all is_win_deed wins ≡ true → Behind window wins
behind_wins window [] some h = record { hand_is = ap hand (append-nil window) ∙ sym (append-nil (hand window)); now_is = ap standing (append-nil window) }
behind_wins window (Win winner target tile unders own yaku fu han value deltas said rest ∷ wins) some h =
    let d : Deed = Win winner target tile unders own yaku fu han value deltas said rest in
    let one : hand (window ++ d ∷ []) ≡ hand window ++ d ∷ [] = hand_is window d (λ start empty. some empty) in
    let later : Behind (window ++ d ∷ []) wins = behind_wins (window ++ d ∷ []) wins (λ e. some_hand (hand window) d (sym one ∙ e)) h in
    record {
      hand_is = ap hand (sym (append_assoc window (d ∷ []) wins)) ∙ later.hand_is ∙ ap (λ (hs : List Deed). hs ++ wins) one ∙ append_assoc (hand window) (d ∷ []) wins;
      now_is = ap standing (sym (append_assoc window (d ∷ []) wins)) ∙ later.now_is ∙ standing_stays window d refl;
    }
behind_wins window (other ∷ wins) some h = cc

none_left : (wins : List Deed) → list_all is_win_deed wins ≡ true → before_wins wins ≡ []
none_left [] h = refl
none_left (Win winner target tile unders own yaku fu han value deltas said rest ∷ wins) h = none_left wins h
none_left (other ∷ wins) h = cc

some_won : (hs : List Deed) (first : Deed) (more : List Deed) → list_all is_win_deed (first ∷ more) ≡ true → (length (winners (hs ++ first ∷ more)) == 0) ≡ false
some_won hs (Win winner target tile unders own yaku fu han value deltas said rest) more h =
    ne_eqb _ 0 (some _ _ _ (ap (λ (xs : List ℕ). length xs) (flat_map-append winners_by hs (Win winner target tile unders own yaku fu han value deltas
    said rest ∷ more)) ∙ length-append (winners hs) (winner ∷ winners more)))
  where
    some : (n m k : ℕ) → n ≡ m + suc k → n ≡ 0 → ⊥
    some n m k e f = omega (arith, e, f)
some_won hs other more h = cc

pub further_rons_are_paid : FurtherRonsArePaid
unfolding outcome
further_rons_are_paid rules walls window first more given who tile seat answer winner unders own yaku fu han value deltas said rest whole played offered win lawful wins e =
    let deeds : List Deed = window ++ first ∷ more in
    let offer : Offers window who tile = offers_of window who tile offered in
    let nobody : winners (hand window) ≡ [] = nobody_yet rules walls window offer.last whole played offer.newest_is (offer_unwon offer.last offer.offers) in
    let begun : is_in_hand (newest window) ≡ true = ap is_in_hand offer.newest_is ∙ offer.goes_on in
    let there : newest (hand window) ≡ newest window = newest_there rules walls window whole played begun in
    let b : Behind window (first ∷ more) = behind_wins window (first ∷ more) (hand_begun rules.red window (played_sound rules walls window whole played).fit begun) wins in
    let before : before_wins (hand deeds) ≡ hand window =
    ap before_wins b.hand_is ∙ filter-append (λ deed. not (is_win_deed deed)) (hand window) (first ∷ more)
    ∙ (λ i. none_won (hand window) nobody i ++ none_left (first ∷ more) wins i) ∙ append-nil (hand window) in
    let some : (length (winners (hand deeds)) == 0) ≡ false = ap (λ (hs : List Deed). length (winners hs) == 0) b.hand_is ∙ some_won (hand window) first more wins in
    record {
      deed = win_deed (wall_now walls deeds) deeds seat who tile rest;
      comes = ap (option_and_then (λ last. follows rules walls deeds last (decision_by last given))) e;
      paid = settled (wall_now walls deeds) window deeds seat who tile _ _ _ _ rest (record {
        before = before;
        now_is = b.now_is;
        own_is = ron_own window deeds seat who tile offer there before;
        counts = ron_counts window deeds seat who tile offer there before;
        worth = offer_worth rules window seat who tile answer offer win lawful;
        honba_is = ap (λ (t : Bool). if t then (standing deeds).honba else 0) some;
        laid_is = ap (λ (t : Bool). if t then deposits deeds else 0) some;
        pays = λ base number sum.
            ron_pays (standing deeds) (before_wins (hand deeds)) seat who (no_draw_case (standing deeds) (before_wins (hand deeds)) seat offer.last
            (ap newest before ∙ there ∙ offer.newest_is) offer.offers) base number sum
            ∙ ap (λ (now : Standing). ron_changes seat who now.dealer base number sum) b.now_is;
      });
    }

-- who wins on its own draw

all_known : (xs : List ℕ) → list_all (λ face. ltb face 37) xs ≡ true → All (λ t. t < 37) xs
all_known [] h = All-nil (λ t. t < 37)
all_known (x ∷ xs) h = let parts = and_parts (ltb x 37) (list_all (λ face. ltb face 37) xs) h in All-cons (λ t. t < 37) x xs (ltb-true x 37 parts.0) (all_known xs parts.1)

without_passes : (test : ℕ → Bool) (xs : List ℕ) (tile : ℕ) → list_all test xs ≡ true → list_all test (without xs tile) ≡ true
without_passes test [] tile h = refl
without_passes test (x ∷ xs) tile h =
    let parts = and_parts (test x) (list_all test xs) h in
    either (eqb x tile) parts.1 (and_from (test x) _ parts.0 (without_passes test xs tile parts.1))
  where
    either : (b : Bool) → list_all test xs ≡ true → list_all test (x ∷ without xs tile) ≡ true → list_all test (cond b xs (x ∷ without xs tile)) ≡ true
    either true h k = h
    either false h k = k

-- In tile order as many pass a test.
in_order : (test : ℕ → Bool) (tiles : List ℕ) → list_all (λ face. ltb face 37) tiles ≡ true → count_by test (less tiles []) ≡ count_by test tiles
unfolding in_tile_order
in_order test tiles known = count_by-in_tile_order test tiles (all_known tiles known)

-- A tile that is taken out and put back leaves the counts.
put_back : (tiles : List ℕ) (tile : ℕ) → list_all (λ face. ltb face 37) tiles ≡ true → 0 < number_in tiles tile → kind_counts (less tiles (tile ∷ []) ++ tile ∷ []) ≡ kind_counts tiles
unfolding kind_counts
put_back tiles tile known some = ap (λ (number : ℕ → ℕ). map number all_kinds) (λ i kind. same kind i)
  where
    same : (kind : ℕ) → number_of (less tiles (tile ∷ []) ++ tile ∷ []) kind ≡ number_of tiles kind
    same kind =
        number_of-push (less tiles (tile ∷ [])) tile kind
        ∙ ap (λ (n : ℕ). n + cond (eqb (kind_of tile) kind) 1 0)
        (ap (λ (xs : List ℕ). number_of xs kind) (less_both tiles [] tile) ∙ in_order (λ t. eqb (kind_of t) kind) (without tiles tile) (without_passes (λ face. ltb face 37) tiles tile known))
        ∙ sym (count_without (λ t. eqb (kind_of t) kind) tiles tile some)

-- So many of a face are left.
number_left : (xs ys : List ℕ) (face : ℕ) → list_all (λ f. ltb f 37) xs ≡ true → number_in (less xs ys) face ≡ number_in xs face - number_in ys face
number_left xs [] face known = in_order (λ t. eqb t face) xs known ∙ none (number_in xs face)
  where
    none : (n : ℕ) → n ≡ n - 0
    none n = omega arith
number_left xs (y ∷ ys) face known =
    ap (λ (zs : List ℕ). number_in zs face) (less_both xs ys y)
    ∙ number_left (without xs y) ys face (without_passes (λ f. ltb f 37) xs y known)
    ∙ less_twice _ _ _ _ _ (number_without xs y face) (number-cons y face ys)
  where
    less_twice : (w x a n k : ℕ) → w ≡ x - a → k ≡ a + n → w - n ≡ x - k
    less_twice w x a n k e f = omega (arith, e, f)

faces_known : (red : Bool) (xs : List ℕ) → list_all (is_face red) xs ≡ true → list_all (λ face. ltb face 37) xs ≡ true
faces_known red [] h = refl
faces_known red (x ∷ xs) h =
    let parts = and_parts (is_face red x) (list_all (is_face red) xs) h in
    and_from (ltb x 37) _ (lt-ltb x 37 (small_face red x parts.0)) (faces_known red xs parts.1)

pub drawn_counts : (red : Bool) (deeds : List Deed) (seat tile : ℕ) (replacement : Bool) → all_fit red [] deeds ≡ true →
    newest deeds ≡ Some (Draw seat tile replacement) → newest (hand deeds) ≡ newest deeds → before_wins (hand deeds) ≡ hand deeds →
    kind_counts (own_tiles_of (before_wins (hand deeds)) seat tile ++ tile ∷ []) ≡ kind_counts (won_tiles (view_of deeds seat))
unfolding view_of
drawn_counts red deeds seat tile replacement fit e there before =
    let at : newest (before_wins (hand deeds)) ≡ Some (Draw seat tile replacement) = ap newest before ∙ there ∙ e in
    let held = (holds red deeds fit).drawn seat tile replacement at in
    let gained : list_all (λ face. ltb face 37) (tiles_gained (hand deeds) seat) ≡ true =
    faces_known red (tiles_gained (hand deeds) seat) (gained_real red (hand deeds) seat (hand_real red deeds fit)) in
    let tiles : List ℕ = concealed_tiles (hand deeds) seat in
    ap (λ (xs : List ℕ). kind_counts (xs ++ tile ∷ [])) (own_drawn (before_wins (hand deeds)) seat tile replacement at ∙ ap (λ (hs : List Deed). less (concealed_tiles hs seat) (tile ∷ [])) before)
    ∙ put_back tiles tile (less_passes (λ face. ltb face 37) (tiles_gained (hand deeds) seat) (tiles_lost (hand deeds) seat) gained)
    (some _ _ _ (number_left (tiles_gained (hand deeds) seat) (tiles_lost (hand deeds) seat) tile gained) held.1)
    ∙ ap kind_counts (sym (append-nil tiles))
    ∙ ap (λ (turn : WindowTurn). kind_counts (tiles ++ offered_in turn)) (sym (turn_is deeds seat (Draw seat tile replacement) e))
  where
    some : (n g l : ℕ) → n ≡ g - l → l < g → 0 < n
    some n g l e h = omega (arith, e, h)

own_wins : (wall : List ℕ) (ds : List Deed) (seat tile : ℕ) (replacement : Bool) (answer : Answer) → is_win answer ≡ true →
    own_act wall ds (Draw seat tile replacement) seat answer ≡ Some (win_deed wall ds seat seat tile [])
own_wins wall ds seat tile replacement (answers.Win actor target t) h = refl
own_wins wall ds seat tile replacement other h = cc

own_pays : (now : Standing) (hs : List Deed) (seat : ℕ) → (case_of now hs seat).by_draw ≡ true → (base number sum : ℕ) →
    win_changes (case_of now hs seat).by_draw seat seat now.dealer base number sum ≡ drawn_changes seat now.dealer base number sum
unfolding win_changes
own_pays now hs seat drew base number sum = (λ i. win_changes (drew i) seat seat now.dealer base number sum)

pub own_win_is_paid : OwnWinIsPaid
unfolding outcome
own_win_is_paid rules walls deeds given seat tile replacement whole played lawful e win =
    let sound = played_sound rules walls deeds whole played in
    let nobody : winners (hand deeds) ≡ [] = nobody_yet rules walls deeds (Draw seat tile replacement) whole played e refl in
    let there : newest (hand deeds) ≡ newest deeds = newest_there rules walls deeds whole played (ap is_in_hand e) in
    let before : before_wins (hand deeds) ≡ hand deeds = none_won (hand deeds) nobody in
    let at : newest (before_wins (hand deeds)) ≡ Some (Draw seat tile replacement) = ap newest before ∙ there ∙ e in
    let small : seat < 4 = ((holds rules.red deeds sound.fit).drawn seat tile replacement at).0 in
    record {
      deed = win_deed (wall_now walls deeds) deeds seat seat tile [];
      comes = ap (option_and_then (λ last. follows rules walls deeds last (decision_by last given))) e ∙ own_wins (wall_now walls deeds) deeds seat tile replacement (at_seat given seat) win;
      paid = settled (wall_now walls deeds) deeds deeds seat seat tile _ _ _ _ [] (record {
        before = before;
        now_is = refl;
        own_is = own_drawn (before_wins (hand deeds)) seat tile replacement at ∙ ap (λ (hs : List Deed). less (concealed_tiles hs seat) (tile ∷ [])) before;
        counts = drawn_counts rules.red deeds seat tile replacement sound.fit e there before;
        worth = λ extra. lawful_wins_are_worth rules deeds (Draw seat tile replacement) seat (at_seat given seat) extra e win (lawful_at rules deeds given seat small lawful);
        honba_is = for_first_none (hand deeds) (standing deeds).honba nobody;
        laid_is = for_first_none (hand deeds) (deposits deeds) nobody;
        pays = own_pays (standing deeds) (before_wins (hand deeds)) seat (draw_case (standing deeds) (before_wins (hand deeds)) seat seat tile replacement at);
      });
    }
