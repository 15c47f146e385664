-- What a seat may know, the circumstances of a win and its numbers are the same of deeds as the seat sees them.
use Rattle.std.proofs.Common.{◌≡◌, ℕ, ◌==◌, cond, List, [], ◌∷◌, ◌++◌, length, refl, ap, sym, ◌∙◌}
use Rattle.std.specs.Prelude.{Option, Some, None, option_map, flat_map, unwrap_or, ℤ}
use Rattle.mj_tiles.specs.Counts.{kind_counts}
use Rattle.mj_tiles.specs.Faces.{kind_of}
use Rattle.mj_tiles.specs.Melds.{tiles_of_meld}
use Rattle.mj_rounds.specs.declared.rounds.Standing.{Standing}
use Rattle.mj_readings.specs.declared.reading.Case.{Case}
use Rattle.mj_readings.specs.declared.reading.Riichi.TheVariants as riichi
use Rattle.mj_yaku.specs.Hands.{are_concealed}
use Rattle.mj_score.specs.declared.score.Score.{Score}
use Rattle.mj_score.specs.declared.score.Extra.{Extra}
use Rattle.mj_score.specs.Worth.{worth_of}
use Rattle.mj_deeds.specs.declared.bid.Bid.{Bid}
use Rattle.mj_deeds.specs.declared.four.Four.{Four}
use Rattle.mj_deeds.specs.declared.reason.Reason.{Reason}
use Rattle.mj_deeds.specs.Shown.{Shown}
use Rattle.mj_deeds.specs.declared.deed.Deed.{Deed}
use Rattle.mj_deeds.specs.declared.deed.Deed.TheVariants as deeds
use Rattle.mj_deeds.specs.Hand.{hand}
use Rattle.mj_deeds.specs.Facts.{newest, tiles_gained, tiles_lost, seat_melds, kans, live_tiles, indicators}
use Rattle.mj_deeds.specs.Firsts.{is_first}
use Rattle.mj_deeds.specs.Riichi.{is_in_riichi, is_double, is_ippatsu}
use Rattle.mj_deeds.specs.Passed.{own_kinds, passed_kinds, passed_in_riichi}
use Rattle.mj_deeds.specs.Points.{points, deposits}
use Rattle.mj_deeds.specs.Course.{before_wins}
use Rattle.mj_deeds.specs.Ends.{winners, standing_after}
use Rattle.mj_deeds.specs.Standings.{standing}
use Rattle.mj_pay.specs.Payments.{deposit_changes, draw_changes}
use Rattle.mj_rules.specs.Wins.{seat_wind, is_draw, is_replacement, is_added, case_of, Shows, extra_by, extra_of, no_score}
use Rattle.mj_rules.specs.Wins.{score_of_win, rows_of_win, win_changes, value_of_win, points_with, win_shown}
use Rattle.mj_rules.specs.Draws.{ready_by, draw_shown}
use Rattle.mj_rules.specs.View.{turn_by, turn_in, view_of}
use Rattle.mj_rules.specs.Outcome.{accept}
use Rattle.mj_deeds.proofs.Masked.{masked, all_masked, newest-masked, hand-masked, before_wins-masked, tiles_gained-masked, tiles_lost-masked, drawn_tile-masked}
use Rattle.mj_deeds.proofs.Masked.{seat_melds-masked, is_in_riichi-masked, is_double-masked, is_ippatsu-masked, is_first-masked, own_kinds-masked}
use Rattle.mj_deeds.proofs.Masked.{passed_kinds-masked, passed_in_riichi-masked, kans-masked, live_tiles-masked, indicators_all-masked}
use Rattle.mj_deeds.proofs.Masked.{winners-masked, standing_after-masked, standing-masked, points-masked, points_of-masked, deposits-masked}

-- A fact of the newest hand, from that fact of a list.
pub of_hand : {A : Type 0} (seat : ℕ) (f : List Deed → A) → ((ds : List Deed) → f ds ≡ f (all_masked seat ds)) → (ds : List Deed) → f (hand ds) ≡ f (hand (all_masked seat ds))
of_hand seat f same ds = same (hand ds) ∙ ap f (hand-masked seat ds)

turn_by-masked : (seat : ℕ) (d : Deed) → turn_by d ≡ turn_by (masked seat d)
turn_by-masked seat (deeds.Draw who tile replacement) = refl
turn_by-masked seat other = refl

turn-masked : (seat : ℕ) (o : Option Deed) → turn_in (option_map turn_by o) ≡ turn_in (option_map turn_by (option_map (masked seat) o))
turn-masked seat None = refl
turn-masked seat (Some d) = turn_by-masked seat d

is_draw-masked : (seat : ℕ) (o : Option Deed) → is_draw o ≡ is_draw (option_map (masked seat) o)
is_draw-masked seat None = refl
is_draw-masked seat (Some (deeds.Draw who tile replacement)) = refl
is_draw-masked seat (Some other) = refl

is_replacement-masked : (seat : ℕ) (o : Option Deed) → is_replacement o ≡ is_replacement (option_map (masked seat) o)
is_replacement-masked seat None = refl
is_replacement-masked seat (Some (deeds.Draw who tile replacement)) = refl
is_replacement-masked seat (Some other) = refl

is_added-masked : (seat : ℕ) (o : Option Deed) → is_added o ≡ is_added (option_map (masked seat) o)
is_added-masked seat None = refl
is_added-masked seat (Some (deeds.Draw who tile replacement)) = refl
is_added-masked seat (Some other) = refl

-- The circumstances of a win of any seat.
pub case_of-masked : (seat who : ℕ) (now : Standing) (ds : List Deed) → case_of now ds who ≡ case_of now (all_masked seat ds) who
unfolding case_of
case_of-masked seat who now ds =
    let new : newest (all_masked seat ds) ≡ option_map (masked seat) (newest ds) = newest-masked seat ds in
    let drew : is_draw (newest ds) ≡ is_draw (newest (all_masked seat ds)) = is_draw-masked seat (newest ds) ∙ ap is_draw (sym new) in
    let again : is_replacement (newest ds) ≡ is_replacement (newest (all_masked seat ds)) = is_replacement-masked seat (newest ds) ∙ ap is_replacement (sym new) in
    let added : is_added (newest ds) ≡ is_added (newest (all_masked seat ds)) = is_added-masked seat (newest ds) ∙ ap is_added (sym new) in
    let melds : seat_melds ds who ≡ seat_melds (all_masked seat ds) who = seat_melds-masked seat who ds in
    let accepted : is_in_riichi ds who ≡ is_in_riichi (all_masked seat ds) who = is_in_riichi-masked seat who ds in
    let double : is_double ds who ≡ is_double (all_masked seat ds) who = is_double-masked seat who ds in
    let soon : is_ippatsu ds who ≡ is_ippatsu (all_masked seat ds) who = is_ippatsu-masked seat who ds in
    let live : live_tiles ds ≡ live_tiles (all_masked seat ds) = live_tiles-masked seat ds in
    let early : is_first ds who ≡ is_first (all_masked seat ds) who = is_first-masked seat who ds in
    λ i. record {
      seat_wind = seat_wind now.dealer who;
      round_wind = now.round;
      by_draw = drew i;
      closed = are_concealed (melds i);
      riichi = cond (accepted i) (cond (double i) riichi.Double riichi.Single) riichi.No;
      ippatsu = soon i;
      last = live i == 0;
      rinshan = again i;
      robbed = added i;
      first = early i;
    }

-- What a seat may know that decides over its own answers.
pub view-masked : (seat : ℕ) (ds : List Deed) → view_of ds seat ≡ view_of (all_masked seat ds) seat
unfolding view_of
view-masked seat ds =
    let turn : turn_in (option_map turn_by (newest ds)) ≡ turn_in (option_map turn_by (newest (all_masked seat ds))) =
    turn-masked seat (newest ds) ∙ ap (λ (o : Option Deed). turn_in (option_map turn_by o)) (sym (newest-masked seat ds)) in
    let drawn = drawn_tile-masked seat ds in
    let got = of_hand seat (λ xs. tiles_gained xs seat) (tiles_gained-masked seat) ds in
    let gone = of_hand seat (λ xs. tiles_lost xs seat) (tiles_lost-masked seat seat) ds in
    let melds = of_hand seat (λ xs. seat_melds xs seat) (seat_melds-masked seat seat) ds in
    let stood = of_hand seat kans (kans-masked seat) ds in
    let live = of_hand seat live_tiles (live_tiles-masked seat) ds in
    let accepted = of_hand seat (λ xs. is_in_riichi xs seat) (is_in_riichi-masked seat seat) ds in
    let pointed = points_of-masked seat seat ds in
    let own = of_hand seat (λ xs. own_kinds xs seat) (own_kinds-masked seat seat) ds in
    let passed = of_hand seat (λ xs. passed_kinds xs seat) (passed_kinds-masked seat seat) ds in
    let since = of_hand seat (λ xs. passed_in_riichi xs seat) (passed_in_riichi-masked seat seat) ds in
    let case = of_hand seat (λ xs. case_of (standing ds) xs seat) (case_of-masked seat seat (standing ds)) ds
    ∙ ap (λ (now : Standing). case_of now (hand (all_masked seat ds)) seat) (standing-masked seat ds) in
    λ i. record {
      turn = turn i;
      drawn = drawn i;
      tiles_gained = got i;
      tiles_lost = gone i;
      melds = melds i;
      kans = stood i;
      live = live i;
      accepted = accepted i;
      points = pointed i;
      own = own i;
      passed = passed i;
      passed_in_riichi = since i;
      case = case i;
    }

-- The deeds of the newest hand before its wins.
pub before_wins_of_hand : (seat : ℕ) (ds : List Deed) → all_masked seat (before_wins (hand ds)) ≡ before_wins (hand (all_masked seat ds))
before_wins_of_hand seat ds = before_wins-masked seat (hand ds) ∙ ap before_wins (hand-masked seat ds)

extra-masked : (seat who : ℕ) (shows : Shows) (ds : List Deed) → extra_of ds who shows ≡ extra_of (all_masked seat ds) who shows
extra-masked seat who shows ds =
    let seen : indicators ds ≡ indicators (all_masked seat ds) = indicators_all-masked seat ds in
    let melds : seat_melds ds who ≡ seat_melds (all_masked seat ds) who = seat_melds-masked seat who ds in
    λ i. extra_by (seen i) shows.unders (shows.own ++ shows.tile ∷ flat_map tiles_of_meld (melds i))

score-masked : (seat who : ℕ) (now : Standing) (shows : Shows) (ds : List Deed) → score_of_win now ds who shows ≡ score_of_win now (all_masked seat ds) who shows
unfolding score_of_win
score-masked seat who now shows ds =
    let melds : seat_melds ds who ≡ seat_melds (all_masked seat ds) who = seat_melds-masked seat who ds in
    let case : case_of now ds who ≡ case_of now (all_masked seat ds) who = case_of-masked seat who now ds in
    let extra : extra_of ds who shows ≡ extra_of (all_masked seat ds) who shows = extra-masked seat who shows ds in
    λ i. unwrap_or (worth_of (kind_counts (shows.own ++ shows.tile ∷ [])) (melds i) (kind_of shows.tile) (case i) (extra i)) no_score

-- A win by what the winner shows has the same numbers.
pub win_shown-masked : (seat who target : ℕ) (shows : Shows) (rest : List ℕ) (ds : List Deed) → win_shown ds who target shows rest ≡ win_shown (all_masked seat ds) who target shows rest
unfolding win_shown
win_shown-masked seat who target shows rest ds =
    let now : standing ds ≡ standing (all_masked seat ds) = standing-masked seat ds in
    let before : all_masked seat (before_wins (hand ds)) ≡ before_wins (hand (all_masked seat ds)) = before_wins_of_hand seat ds in
    let case : case_of (standing ds) (before_wins (hand ds)) who ≡ case_of (standing (all_masked seat ds)) (before_wins (hand (all_masked seat ds))) who =
    case_of-masked seat who (standing ds) (before_wins (hand ds)) ∙ (λ i. case_of (now i) (before i) who) in
    let score : score_of_win (standing ds) (before_wins (hand ds)) who shows ≡ score_of_win (standing (all_masked seat ds)) (before_wins (hand (all_masked seat ds))) who shows =
    score-masked seat who (standing ds) shows (before_wins (hand ds)) ∙ (λ i. score_of_win (now i) (before i) who shows) in
    let extra : extra_of (before_wins (hand ds)) who shows ≡ extra_of (before_wins (hand (all_masked seat ds))) who shows =
    extra-masked seat who shows (before_wins (hand ds)) ∙ (λ i. extra_of (before i) who shows) in
    let won : winners (hand ds) ≡ winners (hand (all_masked seat ds)) = of_hand seat winners (winners-masked seat) ds in
    let laid : deposits ds ≡ deposits (all_masked seat ds) = deposits-masked seat ds in
    let pointed : points ds ≡ points (all_masked seat ds) = points-masked seat ds in
    λ i. win_numbers (now i) (case i) (score i) (extra i) (won i) (laid i) (pointed i)
  where
    win_numbers : Standing → Case → Score → Extra → List ℕ → ℕ → List ℤ → Deed
    win_numbers now case score extra won laid pointed =
        let changes = win_changes case.by_draw who target now.dealer score.base (cond (length won == 0) now.honba 0) (cond (length won == 0) laid 0) in
        deeds.Win who target shows.tile shows.unders shows.own (rows_of_win score case.closed extra) score.fu score.han
        (value_of_win case.by_draw who target now.dealer score.base) changes (points_with pointed changes) rest

-- So has an accepted reach.
pub accept-masked : (seat who : ℕ) (bid : Bid) (ds : List Deed) → accept ds who bid ≡ accept (all_masked seat ds) who bid
unfolding accept
accept-masked seat who bid ds = ap (λ (before : List ℤ). deeds.ReachAccepted who (points_with before (deposit_changes who)) bid) (points-masked seat ds)

-- So has the end of a hand without a winner, by the reason and what is seen of the hands.
pub draw_shown-masked : (seat : ℕ) (reason : Reason) (hands : Four Shown) (ds : List Deed) → draw_shown ds reason hands ≡ draw_shown (all_masked seat ds) reason hands
unfolding draw_shown
draw_shown-masked seat reason hands ds =
    let ready = ready_by reason hands in
    ap (λ (before : List ℤ). deeds.DrawnHand reason hands ready (draw_changes ready) (points_with before (draw_changes ready))) (points-masked seat ds)

-- And the next hand is of the same standing.
pub next_standing-masked : (seat : ℕ) (ds : List Deed) → standing_after (standing ds) (hand ds) ≡ standing_after (standing (all_masked seat ds)) (hand (all_masked seat ds))
next_standing-masked seat ds =
    of_hand seat (standing_after (standing ds)) (standing_after-masked seat (standing ds)) ds
    ∙ ap (λ (now : Standing). standing_after now (hand (all_masked seat ds))) (standing-masked seat ds)
