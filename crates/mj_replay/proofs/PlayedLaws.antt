-- Each played deed is a value of the type of deeds.
use Rattle.std.proofs.Common.{◌≡◌, ℕ, ◌+◌, ◌*◌, ◌%◌, ◌<◌, ◌≤◌, ◌==◌, ◌&&◌, ◌||◌, Bool, true, false, cond, List, [], ◌∷◌, ◌++◌, length, refl, sym, subst, arith, append-nil, append_assoc}
use Rattle.std.specs.Prelude.{Option, Some, None, option_and_then, option_to_list, ℤ, pos, negsuc, ◌+ℤ◌, nat_abs, nat_lt, nat_le, flat_map, map}
use Rattle.std.specs.List.{list_all, slice_index_or, range_with_len}
use Rattle.std.proofs.lemmas.Bool.{and_from, and_parts, lt-ltb, le-leb, leb-true, eq-eqb}
use Rattle.std.proofs.lemmas.Bool.Decides.{nat_tests}
use Rattle.std.proofs.lemmas.List.FromFn.{length-map-range_with_len}
use Rattle.mj_ports.specs.Names.{is_name, are_different}
use Rattle.mj_tiles.specs.Melds.{tiles_of_meld}
use Rattle.mj_readings.specs.declared.reading.Case.{Case}
use Rattle.mj_score.specs.declared.score.Score.{Score}
use Rattle.mj_rounds.specs.declared.rounds.Standing.{Standing}
use Rattle.mj_rounds.specs.declared.rounds.HandEnd.{HandEnd}
use Rattle.mj_rounds.specs.Rounds.{is_round, MayStand, first_standing, next_standing, is_last, stays, is_draw, round_is_over, dealer_after, honba_after}
use Rattle.mj_pay.specs.Payments.{ron_changes, drawn_changes, draw_changes, deposit_changes}
use Rattle.mj_deeds.specs.declared.four.Four.{Four}
use Rattle.mj_deeds.specs.declared.answer.Answer.{Answer}
use Rattle.mj_deeds.specs.declared.answer.Answer.TheVariants as answers
use Rattle.mj_deeds.specs.declared.bid.Bid.{Bid}
use Rattle.mj_deeds.specs.declared.bid.Bid.TheVariants as bids
use Rattle.mj_deeds.specs.declared.reason.Reason.{Reason}
use Rattle.mj_deeds.specs.declared.reason.Reason.TheVariants as reasons
use Rattle.mj_deeds.specs.Shown.{Shown}
use Rattle.mj_deeds.specs.declared.deed.Deed.{Deed}
use Rattle.mj_deeds.specs.declared.deed.Deed.TheVariants.{StartGame, StartHand, Draw, Discard, Chi, Pon, OpenKan, ClosedKan, AddedKan, Dora, Reach, ReachAccepted, Win, DrawnHand, EndHand, EndGame}
use Rattle.mj_deeds.specs.Bids.{call_of_bid}
use Rattle.mj_deeds.specs.Course.{before_wins}
use Rattle.mj_deeds.specs.Ends.{standing_after, end_of}
use Rattle.mj_deeds.specs.Facts.{newest, concealed_tiles, indicators, seat_melds}
use Rattle.mj_deeds.specs.Fits.{faces_in}
use Rattle.mj_deeds.specs.Four.{next_seat}
use Rattle.mj_deeds.specs.Hand.{hand}
use Rattle.mj_deeds.specs.Points.{points, deposits}
use Rattle.mj_deeds.specs.Riichi.{is_in_riichi}
use Rattle.mj_deeds.specs.Standings.{standing}
use Rattle.mj_deeds.proofs.Newest.{newest_more}
use Rattle.mj_deeds.proofs.Standings.{may_stand}
use Rattle.mj_facts.proofs.WinSteps.{shown_without}
use Rattle.mj_wall.specs.declared.setting.Rules.{Rules}
use Rattle.mj_wall.specs.Places.{is_wall, under_tile}
use Rattle.mj_window.specs.Decided.{decision_by}
use Rattle.mj_window.specs.declared.decision.Decision.{Decision}
use Rattle.mj_window.specs.declared.decision.Decision.TheVariants.{Rons, Call, Act, Pass}
use Rattle.mj_rules.specs.Draws.{drawn_hand, draw_shown, is_hand_shown, shown_where, hand_at_draw, hands_at_draw, ready_by}
use Rattle.mj_rules.specs.Outcome.{wall_of, wall_now, hand_start, next_draw, next_dora, next_replacement, act_of, own_act, accept, behind_discard}
use Rattle.mj_rules.specs.Outcome.{called_or_draw, next_winner, others_of, after_pass, follows, outcome, won_tile, seat_of}
use Rattle.mj_rules.specs.Played.{is_game_start, IsPlayedBehind, AllPlayed, IsPlayed}
use Rattle.mj_rules.specs.Wins.{Shows, own_tiles_of, unders_of, extra_of, case_of, score_of_win, rows_of_win, win_changes, value_of_win, for_first, points_with, win_shown, win_deed}
use Rattle.mj_rules.proofs.Answered.{IfAny}
use Rattle.mj_rules.proofs.Kept.{IsNext}
use Rattle.mj_rules.proofs.Playing.{played_sound, played_more}
use Rattle.mj_rules.proofs.Purses.{sum_size, worth_few, win_size, deposit_size, draw_size}
use Rattle.mj_rules.proofs.Riches.{one_passes, four_pass}
use Rattle.mj_rules.proofs.Stages.{stage_of}
use Rattle.mj_rules.proofs.Turns.{outcome_next, draw_or, called_or, unless, behind_or, start_or_end}
use Rattle.mj_rules.proofs.Winning.{Fair, changes_of, changes_few}
use Rattle.mj_machine.specs.Inner.Steps.{AreSmall, CanWin, NextCanWin, CanWinBy, CanWinAfter, CanFollow}
use Rattle.mj_machine.proofs.Small.{all_small}
use Rattle.mj_machine.proofs.Followed.{can_follow}
use Rattle.mj_history.specs.Records.{is_byte, is_word, is_signed_word, is_tile, are_points, is_row, is_deed}
use Rattle.mj_replay.proofs.WorthLaws.{Small, win_small, FewDora, extra_few, all_few, rows_fit}
use Rattle.mj_replay.proofs.SizeLaws.{hidden_fits, Fits, are_real, value}

-- points of four seats
small_word : (x : ℤ) → nat_abs x ≤ 100000000 → is_signed_word x ≡ true
small_word (pos n) h = lt-ltb n 2147483648 (omega (arith, h))
small_word (negsuc n) h = lt-ltb n 2147483648 (omega (arith, h))

list_fits : (xs : List ℤ) → length xs ≡ 4 → ((seat : ℕ) → nat_abs (slice_index_or xs seat (pos 0)) ≤ 100000000) → are_points xs ≡ true
list_fits [] e h = absurd (omega (arith, e))
list_fits (a ∷ []) e h = absurd (omega (arith, e))
list_fits (a ∷ b ∷ []) e h = absurd (omega (arith, e))
list_fits (a ∷ b ∷ c ∷ []) e h = absurd (omega (arith, e))
list_fits (a ∷ b ∷ c ∷ d ∷ []) e h =
    and_from (is_signed_word a) _ (small_word a (h 0)) (and_from (is_signed_word b) _ (small_word b (h 1))
    (and_from (is_signed_word c) _ (small_word c (h 2)) (and_from (is_signed_word d) true (small_word d (h 3)) refl)))
list_fits (a ∷ b ∷ c ∷ d ∷ x ∷ xs) e h = absurd (omega (arith, e))

with_fits : (before changes : List ℤ) (most : ℕ) → most ≤ 10000000 → ((seat : ℕ) → nat_abs (slice_index_or before seat (pos 0)) ≤ 90000000) →
    ((seat : ℕ) → nat_abs (slice_index_or changes seat (pos 0)) ≤ most) → are_points (points_with before changes) ≡ true
with_fits before changes most few h k =
    and_from (is_signed_word (sum 0)) _ (at 0) (and_from (is_signed_word (sum 1)) _ (at 1) (and_from (is_signed_word (sum 2)) _ (at 2) (and_from (is_signed_word (sum 3)) true (at 3) refl)))
  where
    sum : ℕ → ℤ
    sum seat = slice_index_or before seat (pos 0) +ℤ slice_index_or changes seat (pos 0)

    within : (n a b : ℕ) → n ≤ a + b → a ≤ 90000000 → b ≤ most → n ≤ 100000000
    within n a b e f g = omega (arith, e, f, g, few)

    at : (seat : ℕ) → is_signed_word (slice_index_or before seat (pos 0) +ℤ slice_index_or changes seat (pos 0)) ≡ true
    at seat = small_word (sum seat) (within (nat_abs (sum seat)) (nat_abs (slice_index_or before seat (pos 0)))
        (nat_abs (slice_index_or changes seat (pos 0))) (sum_size (slice_index_or before seat (pos 0)) (slice_index_or changes seat (pos 0))) (h seat)
        (k seat))

-- what is known of played deeds
record Known (red : Bool) (walls : List (List ℕ)) (ds : List Deed) : Type 0 where
  fair : Fair red walls ds
  small : AreSmall ds
  stands : MayStand (standing ds)

rich : (red : Bool) (walls : List (List ℕ)) (ds : List Deed) → Known red walls ds → (seat : ℕ) → nat_abs (slice_index_or (points ds) seat (pos 0)) ≤ 90000000
rich red walls ds k seat = less _ (deposits ds) (k.fair.rich seat)
  where
    less : (n m : ℕ) → n + 1000 * m ≤ 90000000 → n ≤ 90000000
    less n m h = omega (arith, h)

-- a win
long_changes : (by_draw : Bool) (seat target dealer base honba lying : ℕ) → length (win_changes by_draw seat target dealer base honba lying) ≡ 4
unfolding win_changes ron_changes drawn_changes
long_changes true seat target dealer base honba lying = refl
long_changes false seat target dealer base honba lying = refl

base_few : (now : Standing) (deeds : List Deed) (seat : ℕ) (shows : Shows) → (score_of_win now deeds seat shows).base ≤ 8000
unfolding score_of_win
base_few now deeds seat shows = worth_few _ _ _ _ _

unders_few : (wall : List ℕ) (hs : List Deed) (seat : ℕ) → length (indicators hs) ≤ 5 → length (unders_of wall hs seat) ≤ 5
unders_few wall hs seat h = by_test (is_in_riichi hs seat)
  where
    by_test : (b : Bool) → length (cond b (map (under_tile wall) (range_with_len 0 (length (indicators hs)))) []) ≤ 5
    by_test true = subst (λ n. n ≤ 5) (sym (length-map-range_with_len (under_tile wall) 0 (length (indicators hs)))) h
    by_test false = omega arith

win_fits : (red : Bool) (walls : List (List ℕ)) (wall : List ℕ) (ds : List Deed) (seat target tile : ℕ) (rest : List ℕ) → Known red walls ds →
    CanWin ds seat target tile → length rest ≤ 2 → Fits (win_deed wall ds seat target tile rest)
unfolding win_shown
win_fits red walls wall ds seat target tile rest k can few =
    and_from a6 (nat_le (length rest) 2) (and_from a5 (are_points (points_with (points ds) changes))
    (and_from a4 (are_points changes) (and_from a3 (is_word worth) (and_from a2 (is_byte score.han) (and_from a1 (is_byte score.fu)
    (rows_fit score case.closed (extra_of hs seat shows) dora) (lt-ltb score.fu 256 little.fu)) (lt-ltb score.han 256 little.han))
    (lt-ltb worth 4294967296 (most worth (win_size case.by_draw seat target (standing ds).dealer score.base 0 0
    (base_few (standing ds) hs seat shows) (omega arith) seat))))
    (list_fits changes (long_changes case.by_draw seat target (standing ds).dealer score.base (for_first (hand ds) (standing ds).honba)
    (for_first (hand ds) (deposits ds))) (λ other. more _ (deposits ds) (changed other) k.small.deposits)))
    (with_fits (points ds) changes 10000000 (omega arith) (rich red walls ds k) (λ other. lots _ (deposits ds) (changed other) k.small.deposits))) (le-leb (length rest) 2 few)
  where
    hs : List Deed
    hs = before_wins (hand ds)

    shows : Shows
    shows = record { own = own_tiles_of hs seat tile; tile = tile; unders = unders_of wall hs seat }

    case : Case
    case = case_of (standing ds) hs seat

    score : Score
    score = score_of_win (standing ds) hs seat shows

    changes : List ℤ
    changes = changes_of ds seat target shows

    worth : ℕ
    worth = value_of_win case.by_draw seat target (standing ds).dealer score.base

    shown : length (indicators hs) ≤ 5
    shown = subst (λ (xs : List ℕ). length xs ≤ 5) (sym (shown_without (hand ds))) k.small.shown

    dora : FewDora (extra_of hs seat shows)
    dora = extra_few (indicators hs) (unders_of wall hs seat) (own_tiles_of hs seat tile ++ tile ∷ flat_map tiles_of_meld (seat_melds hs seat)) can.few.all shown (unders_few wall hs seat shown)

    little : Small score
    little = win_small (standing ds) hs seat shows (all_few (extra_of hs seat shows) dora)

    changed : (other : ℕ) → nat_abs (slice_index_or changes other (pos 0)) ≤ 144000 + 1000 * deposits ds
    changed other = changes_few ds seat target shows k.fair.honba other

    most : (n : ℕ) → n ≤ 144000 + 1000 * 0 → n < 4294967296
    most n h = omega (arith, h)

    more : (n m : ℕ) → n ≤ 144000 + 1000 * m → m ≤ 800 → n ≤ 100000000
    more n m h l = omega (arith, h, l)

    lots : (n m : ℕ) → n ≤ 144000 + 1000 * m → m ≤ 800 → n ≤ 10000000
    lots n m h l = omega (arith, h, l)

    a1 : Bool
    a1 = list_all is_row (rows_of_win score case.closed (extra_of hs seat shows))

    a2 : Bool
    a2 = a1 && is_byte score.fu

    a3 : Bool
    a3 = a2 && is_byte score.han

    a4 : Bool
    a4 = a3 && is_word worth

    a5 : Bool
    a5 = a4 && are_points changes

    a6 : Bool
    a6 = a5 && are_points (points_with (points ds) changes)

-- a hand that is drawn
ready_long : (reason : Reason) (hands : Four Shown) → length (ready_by reason hands) ≡ 4
ready_long reasons.Fanpai hands = refl
ready_long other hands = refl

pays_long : (reason : Reason) (hands : Four Shown) → length (draw_changes (ready_by reason hands)) ≡ 4
unfolding draw_changes
pays_long reasons.Fanpai hands = refl
pays_long other hands = refl

few_hidden : (reason : Reason) (hs : List Deed) (seat : ℕ) → length (concealed_tiles hs seat) ≤ 14 → hidden_fits (hand_at_draw reason hs seat) ≡ true
unfolding hand_at_draw
few_hidden reason hs seat h = by_test (is_hand_shown reason hs seat)
  where
    by_test : (b : Bool) → hidden_fits (shown_where b (concealed_tiles hs seat)) ≡ true
    by_test true = refl
    by_test false = lt-ltb (length (concealed_tiles hs seat)) 256 (omega (arith, h))

drawn_fits : (red : Bool) (walls : List (List ℕ)) (ds : List Deed) (reason : Reason) → Known red walls ds → Fits (drawn_hand ds reason)
unfolding draw_shown
drawn_fits red walls ds reason k =
    and_from (four && length ready == 4 && are_points changes) (are_points (points_with (points ds) changes))
    (and_from (four && length ready == 4) (are_points changes) (and_from four (length ready == 4)
    (and_from (hidden 0 && hidden 1 && hidden 2) (hidden 3) (and_from (hidden 0 && hidden 1) (hidden 2) (and_from (hidden 0) (hidden 1) (at 0) (at 1)) (at 2)) (at 3))
    (eq-eqb (length ready) 4 (ready_long reason hands)))
    (list_fits changes (pays_long reason hands) (λ seat. less _ (draw_size ready seat))))
    (with_fits (points ds) changes 3000 (omega arith) (rich red walls ds k) (λ seat. draw_size ready seat))
  where
    hands : Four Shown
    hands = hands_at_draw reason (hand ds)

    ready : List Bool
    ready = ready_by reason hands

    changes : List ℤ
    changes = draw_changes ready

    hidden : ℕ → Bool
    hidden seat = hidden_fits (hand_at_draw reason (hand ds) seat)

    four : Bool
    four = hidden 0 && hidden 1 && hidden 2 && hidden 3

    at : (seat : ℕ) → hidden seat ≡ true
    at seat = few_hidden reason (hand ds) seat (k.small.held seat)

    less : (n : ℕ) → n ≤ 3000 → n ≤ 100000000
    less n h = omega (arith, h)

-- an accepted reach
accepted_fits : (red : Bool) (walls : List (List ℕ)) (ds : List Deed) (who : ℕ) (bid : Bid) → Known red walls ds → Fits (accept ds who bid)
unfolding accept
accepted_fits red walls ds who bid k = with_fits (points ds) (deposit_changes who) 1000 (omega arith) (rich red walls ds k) (deposit_size who)

-- a start of a hand
round_low : (round : ℕ) → is_round round ≡ true → nat_lt round 34 ≡ true
round_low round h = grind (arith, nat_tests)

record Low (now : Standing) : Type 0 where
  round : nat_lt now.round 34 ≡ true
  dealer : now.dealer ≤ 3
  honba : now.honba ≤ 200

next_low : (now next : Standing) (end : HandEnd) → MayStand now → next_standing now end ≡ Some next → Low next
unfolding next_standing
next_low now next end s e = by_test (is_last now end) e
  where
    after : Standing
    after = record { round = cond (round_is_over now end) 28 now.round; dealer = dealer_after now.dealer end; honba = honba_after now.honba end; hand = now.hand + 1 }

    some_is : (a b : Standing) → Some a ≡ Some b → a ≡ b
    some_is a b h = cc

    round_at : (b : Bool) → nat_lt (cond b 28 now.round) 34 ≡ true
    round_at true = refl
    round_at false = round_low now.round s.round

    dealer_at : (b : Bool) → cond b now.dealer ((now.dealer + 1) % 4) ≤ 3
    dealer_at true = s.dealer
    dealer_at false = omega arith

    honba_at : (b : Bool) → cond b (now.honba + 1) 0 ≤ 200
    honba_at true = let h = s.honba in omega (arith, h)
    honba_at false = omega arith

    by_test : (b : Bool) → cond b None (Some after) ≡ Some next → Low next
    by_test true h = cc
    by_test false h = subst Low (some_is after next h) (record { round = round_at (round_is_over now end); dealer = dealer_at (stays end); honba = honba_at (is_draw end || stays end) })

start_fits : (wall : List ℕ) (now : Standing) (lying : ℕ) → Low now → lying ≤ 800 → Fits (hand_start wall now lying)
unfolding hand_start
start_fits wall now lying l h =
    and_from (nat_lt now.round 34 && is_byte (now.dealer + 1) && is_word now.honba) (is_word lying) (and_from (nat_lt now.round 34 && is_byte (now.dealer + 1)) (is_word now.honba)
    (and_from (nat_lt now.round 34) (is_byte (now.dealer + 1)) l.round (lt-ltb (now.dealer + 1) 256 (byte now.dealer l.dealer)))
    (lt-ltb now.honba 4294967296 (word now.honba l.honba))) (lt-ltb lying 4294967296 (omega (arith, h)))
  where
    byte : (n : ℕ) → n ≤ 3 → n + 1 < 256
    byte n h = omega (arith, h)

    word : (n : ℕ) → n ≤ 200 → n < 4294967296
    word n h = omega (arith, h)

-- the end of a game
ended_fits : (red : Bool) (walls : List (List ℕ)) (ds : List Deed) → Known red walls ds → Fits (EndGame (points ds) (deposits ds))
ended_fits red walls ds k =
    and_from (are_points (points ds)) (is_word (deposits ds)) (list_fits (points ds) refl (λ seat. less _ (rich red walls ds k seat)))
    (lt-ltb (deposits ds) 4294967296 (few (deposits ds) k.small.deposits))
  where
    less : (n : ℕ) → n ≤ 90000000 → n ≤ 100000000
    less n h = omega (arith, h)

    few : (n : ℕ) → n ≤ 800 → n < 4294967296
    few n h = omega (arith, h)

-- what follows a deed
acts_fit : (who : ℕ) (answer : Answer) → IfAny Fits (act_of who answer)
acts_fit who (answers.Discard actor tile drawn) = one_passes Fits (λ t. Discard who t drawn) tile (λ t. refl)
acts_fit who (answers.ClosedKan actor a b c d) = four_pass Fits (λ x y z w. ClosedKan who x y z w) a b c d (λ x y z w. refl)
acts_fit who (answers.AddedKan actor tile a b c) = four_pass Fits (λ t x y z. AddedKan who t x y z) tile a b c (λ t x y z. refl)
acts_fit who (answers.Reach actor) = refl
acts_fit who other = tt

calls_fit : (bid : Bid) → IfAny Fits (call_of_bid bid)
calls_fit bids.NoBid = tt
calls_fit (bids.Chi seat target tile a b) = refl
calls_fit (bids.Pon seat target tile a b) = refl
calls_fit (bids.OpenKan seat target tile a b c) = refl

own_fits : (red : Bool) (walls : List (List ℕ)) (wall : List ℕ) (ds : List Deed) (last : Deed) (seat : ℕ) (answer : Answer) → Known red walls ds →
    CanWinBy ds last seat answer → IfAny Fits (own_act wall ds last seat answer)
own_fits red walls wall ds last seat (answers.Win actor target tile) k can = win_fits red walls wall ds seat seat (won_tile last) [] k can (omega arith)
own_fits red walls wall ds last seat (answers.NineKinds actor) k can = drawn_fits red walls ds reasons.Kyushukyuhai k
own_fits red walls wall ds last seat other k can = acts_fit seat other

draw_fits : (red : Bool) (walls : List (List ℕ)) (wall : List ℕ) (ds : List Deed) (seat : ℕ) → Known red walls ds → Fits (next_draw wall ds seat)
draw_fits red walls wall ds seat k = draw_or Fits wall ds seat (drawn_fits red walls ds reasons.Fanpai k) (λ live. refl)

discarded_fits : (rules : Rules) (walls : List (List ℕ)) (wall : List ℕ) (ds : List Deed) (seat : ℕ) (bid : Bid) → Known rules.red walls ds → Fits (behind_discard rules wall ds seat bid)
discarded_fits rules walls wall ds seat bid k =
    behind_or Fits rules wall ds seat bid (λ reached. accepted_fits rules.red walls ds seat bid k) (λ why. drawn_fits rules.red walls ds why k)
    (calls_fit bid) (draw_fits rules.red walls wall ds (next_seat seat) k)

-- At most two win after a winner.
abbrev FewRest : Deed → Type 0
FewRest (Win who target tile unders own yaku fu han value deltas said rest) = length rest ≤ 2
FewRest other = Unit {0}

winner_fits : (red : Bool) (walls : List (List ℕ)) (wall : List ℕ) (ds : List Deed) (target tile : ℕ) (rest : List ℕ) → Known red walls ds →
    NextCanWin ds target tile rest → length rest ≤ 2 → Fits (next_winner wall ds target tile rest)
winner_fits red walls wall ds target tile [] k can few = refl
winner_fits red walls wall ds target tile (seat ∷ rest) k can few = win_fits red walls wall ds seat target tile rest k can (omega (arith, few))

passed_fits : (rules : Rules) (walls : List (List ℕ)) (wall : List ℕ) (ds : List Deed) (last : Deed) → Known rules.red walls ds → FewRest last →
    CanWinAfter ds last → IfAny Fits (after_pass rules walls wall ds last)
unfolding next_dora next_replacement
passed_fits rules walls wall ds (StartGame names) k few can = start_fits (wall_of walls 0) first_standing 0 (record { round = refl; dealer = omega arith; honba = omega arith }) (omega arith)
passed_fits rules walls wall ds (StartHand round number honba lying dealer indicator hands) k few can = draw_fits rules.red walls wall ds dealer k
passed_fits rules walls wall ds (Draw who tile replacement) k few can = tt
passed_fits rules walls wall ds (Discard who tile drawn) k few can = discarded_fits rules walls wall ds who bids.NoBid k
passed_fits rules walls wall ds (Chi who target tile a b) k few can = tt
passed_fits rules walls wall ds (Pon who target tile a b) k few can = tt
passed_fits rules walls wall ds (OpenKan who target tile a b c) k few can = refl
passed_fits rules walls wall ds (ClosedKan who a b c d) k few can = refl
passed_fits rules walls wall ds (AddedKan who tile a b c) k few can = refl
passed_fits rules walls wall ds (Dora tile) k few can = refl
passed_fits rules walls wall ds (Reach who) k few can = tt
passed_fits rules walls wall ds (ReachAccepted who said bid) k few can =
    unless Fits rules ds (called_or_draw wall ds who bid) (λ why. drawn_fits rules.red walls ds why k) (called_or Fits wall ds who bid (calls_fit bid)
    (draw_fits rules.red walls wall ds (next_seat who) k))
passed_fits rules walls wall ds (Win who target tile unders own yaku fu han value deltas said rest) k few can = winner_fits rules.red walls wall ds target tile rest k can few
passed_fits rules walls wall ds (DrawnHand reason hands ready deltas said) k few can = refl
passed_fits rules walls wall ds EndHand k few can =
    start_or_end Fits walls ds (standing_after (standing ds) (hand ds))
    (λ next e. start_fits (wall_of walls next.hand) next (deposits ds) (next_low (standing ds) next (end_of (hand ds) (standing ds).dealer) k.stands
    e) k.small.deposits) (ended_fits rules.red walls ds k)
passed_fits rules walls wall ds (EndGame said lying) k few can = tt

others_few : (a b : Option ℕ) → length (option_to_list a ++ option_to_list b) ≤ 2
others_few None None = omega arith
others_few None (Some y) = omega arith
others_few (Some x) None = omega arith
others_few (Some x) (Some y) = omega arith

follower_fits : (rules : Rules) (walls : List (List ℕ)) (ds : List Deed) (last : Deed) (decision : Decision) → Known rules.red walls ds →
    FewRest last → CanFollow ds last decision → IfAny Fits (follows rules walls ds last decision)
follower_fits rules walls ds last (Rons seats) k few can = win_fits rules.red walls (wall_now walls ds) ds seats.first (seat_of last) (won_tile last)
    (others_of seats) k can (others_few seats.second seats.third)
follower_fits rules walls ds last (Call bid) k few can = discarded_fits rules walls (wall_now walls ds) ds (seat_of last) bid k
follower_fits rules walls ds last (Act seat answer) k few can = own_fits rules.red walls (wall_now walls ds) ds last seat answer k can
follower_fits rules walls ds last Pass k few can = passed_fits rules walls (wall_now walls ds) ds last k few can

outcome_fits : (rules : Rules) (walls : List (List ℕ)) (ds : List Deed) (given : Four Answer) → Known rules.red walls ds → IfAny FewRest (newest ds) →
    ((last : Deed) → newest ds ≡ Some last → CanFollow ds last (decision_by last given)) → IfAny Fits (outcome rules walls ds given)
unfolding outcome
outcome_fits rules walls ds given k few can = by_newest (newest ds) refl few
  where
    by_newest : (o : Option Deed) → newest ds ≡ o → IfAny FewRest o → IfAny Fits (option_and_then (λ last. follows rules walls ds last (decision_by last given)) o)
    by_newest None e few = tt
    by_newest (Some last) e few = follower_fits rules walls ds last (decision_by last given) k few (can last e)

-- played deeds
start_value : (deed : Deed) → is_game_start deed ≡ true → is_deed deed ≡ true
start_value (StartGame names) h =
    let p = and_parts (list_all is_name (names.first ∷ names.second ∷ names.third ∷ names.fourth ∷ [])) (are_different (names.first ∷ names.second ∷ names.third ∷ names.fourth ∷ [])) h in
    let a = and_parts (is_name names.first) (list_all is_name (names.second ∷ names.third ∷ names.fourth ∷ [])) p.0 in
    let b = and_parts (is_name names.second) (list_all is_name (names.third ∷ names.fourth ∷ [])) a.1 in
    let c = and_parts (is_name names.third) (list_all is_name (names.fourth ∷ [])) b.1 in
    let d = and_parts (is_name names.fourth) true c.1 in
    and_from (is_name names.first && is_name names.second && is_name names.third) (is_name names.fourth)
    (and_from (is_name names.first && is_name names.second) (is_name names.third) (and_from (is_name names.first) (is_name names.second) a.0 b.0)
    c.0) d.0
start_value other h = cc

few_of : (deed : Deed) → is_deed deed ≡ true → FewRest deed
few_of (Win who target tile unders own yaku fu han value deltas said rest) h =
    let p = and_parts (is_byte who && is_byte target && is_tile tile && list_all is_tile unders && list_all is_tile own && list_all is_row yaku &&
    is_byte fu && is_byte han && is_word value && are_points deltas && are_points said && nat_le (length rest) 2) (list_all is_byte rest) h in
    let q = and_parts (is_byte who && is_byte target && is_tile tile && list_all is_tile unders && list_all is_tile own && list_all is_row yaku &&
    is_byte fu && is_byte han && is_word value && are_points deltas && are_points said) (nat_le (length rest) 2) p.0 in
    leb-true (length rest) 2 q.1
few_of other h = tt

if_some : {A : Type 0} (P : A → Type 0) (o : Option A) (d : A) → IfAny P o → o ≡ Some d → P d
if_some P o d h e = subst (IfAny P) e h

behind_value : (rules : Rules) (walls : List (List ℕ)) (ds : List Deed) (deed : Deed) →
    ((number : ℕ) → is_wall rules.red (wall_of walls number) ≡ true) → IsPlayed rules walls ds → IfAny FewRest (newest ds) →
    IsPlayedBehind rules walls ds deed → is_deed deed ≡ true
behind_value rules walls [] deed whole played few g = start_value deed g
behind_value rules walls (first ∷ others) deed whole played few g =
    let ds : List Deed = first ∷ others in
    let s = played_sound rules walls ds whole played in
    let k : Known rules.red walls ds = record {
      fair = s.known.fair;
      small = all_small rules.red walls (wall_now walls ds) (stage_of ds) ds s.fit
          s.known.fair s.standing;
      stands = may_stand rules.red ds s.fit;
    } in
    let next = if_some (IsNext rules.red walls ds) (outcome rules walls ds g.given) deed (outcome_next rules walls ds g.given s.known g.lawful) g.gives in
    value deed
    (if_some Fits (outcome rules walls ds g.given) deed (outcome_fits rules walls ds g.given k few (λ last e. can_follow rules walls ds g.given last whole played g.lawful e)) g.gives)
    next.seats (are_real rules.red (faces_in deed) next.tiles)

newest_few : (rules : Rules) (walls : List (List ℕ)) (before ds : List Deed) → ((number : ℕ) → is_wall rules.red (wall_of walls number) ≡ true) →
    IsPlayed rules walls before → IfAny FewRest (newest before) → AllPlayed rules walls before ds → IfAny FewRest (newest (before ++ ds))
newest_few rules walls before [] whole played few all = subst (λ (xs : List Deed). IfAny FewRest (newest xs)) (sym (append-nil before)) few
newest_few rules walls before (d ∷ ds) whole played few all =
    subst (λ (xs : List Deed). IfAny FewRest (newest xs)) (append_assoc before (d ∷ []) ds)
    (newest_few rules walls (before ++ d ∷ []) ds whole (played_more rules walls before d played all.0)
    (subst (IfAny FewRest) (sym (newest_more before d)) (few_of d (behind_value rules walls before d whole played few all.0))) all.1)

-- What is played after played deeds is a value of the type of deeds.
pub played_value : (rules : Rules) (walls : List (List ℕ)) (ds : List Deed) (deed : Deed) →
    ((number : ℕ) → is_wall rules.red (wall_of walls number) ≡ true) → IsPlayed rules walls ds → IsPlayedBehind rules walls ds deed →
    is_deed deed ≡ true
played_value rules walls ds deed whole played g = behind_value rules walls ds deed whole played (newest_few rules walls [] ds whole tt tt played) g
