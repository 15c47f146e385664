-- Whatever follows a deed comes in its turn.
use Rattle.std.proofs.Common.{◌≡◌, ℕ, zero, suc, ◌+◌, ◌-◌, ◌*◌, ◌%◌, ◌<◌, ◌≤◌, ◌==◌, ◌&&◌, not, Bool, true, false, cond, eqb, ltb, List, [], ◌∷◌, ◌++◌, length, refl, ap, sym, ◌∙◌, arith}
use Rattle.std.specs.Prelude.{Option, Some, None, All, option_and_then, option_map, nat_lt, filter, unwrap_or, slice_get}
use Rattle.std.specs.Option.{option_map_or}
use Rattle.std.specs.List.{list_all}
use Rattle.std.proofs.lemmas.Bool.{and_from, and_parts, ltb-true, lt-ltb, eqb-false, eq-eqb, not-false}
use Rattle.std.proofs.lemmas.List.Elements.{All-head, All-tail}
use Rattle.mj_deeds.specs.declared.four.Four.{Four}
use Rattle.mj_deeds.specs.declared.answer.Answer.{Answer}
use Rattle.mj_deeds.specs.declared.answer.Answer.TheVariants as answers
use Rattle.mj_deeds.specs.declared.deed.Deed.{Deed}
use Rattle.mj_deeds.specs.declared.deed.Deed.TheVariants.{StartGame, StartHand, Draw, Discard, Chi, Pon, OpenKan, ClosedKan, AddedKan, Dora, Reach, ReachAccepted, Win, DrawnHand, EndHand, EndGame}
use Rattle.mj_deeds.specs.Four.{at_seat, next_seat}
use Rattle.mj_deeds.specs.Facts.{newest, before_newest, kans, kan_seats, indicators, live_draws, live_tiles}
use Rattle.mj_deeds.specs.Fits.{ground_of, is_in_hand, is_after_start, is_after_hand, is_after_result, is_after_dora, is_after_kan, has_seats, is_face, has_tiles}
use Rattle.mj_wall.specs.Places.{is_wall, live_tile}
use Rattle.mj_rounds.specs.declared.rounds.Standing.{Standing}
use Rattle.mj_deeds.specs.declared.bid.Bid.{Bid}
use Rattle.mj_deeds.specs.declared.bid.Bid.TheVariants as bids
use Rattle.mj_deeds.specs.Bids.{call_of_bid}
use Rattle.mj_deeds.specs.Hand.{hand, hand_number, starts}
use Rattle.mj_deeds.specs.Points.{points, deposits}
use Rattle.mj_deeds.specs.Riichi.{is_in_riichi}
use Rattle.mj_deeds.specs.Course.{is_reach}
use Rattle.mj_deeds.specs.Reasons.{reason}
use Rattle.mj_deeds.specs.declared.reason.Reason.{Reason}
use Rattle.mj_deeds.specs.declared.reason.Reason.TheVariants as reasons
use Rattle.mj_deeds.specs.Standings.{standing}
use Rattle.mj_deeds.specs.Ends.{standing_after}
use Rattle.mj_window.specs.Decided.{decision_by, best_bid, call_or_pass, is_win, seats_after, rons_on, rons_or}
use Rattle.mj_window.specs.declared.decision.Decision.{Decision}
use Rattle.mj_window.specs.declared.decision.Decision.TheVariants.{Pass}
use Rattle.mj_rules.specs.Broken.{is_own_act, is_open, is_discard, is_pass}
use Rattle.mj_rules.specs.View.{view_of, turn_by, turn_in, Drew, Called, Reached}
use Rattle.mj_rules.specs.Wins.{win_deed}
use Rattle.mj_wall.specs.declared.setting.Rules.{Rules}
use Rattle.mj_rules.specs.Outcome.{hand_start, next_draw, next_dora, newest_kan_seat, next_replacement, act_of, own_act, won_tile, seat_of, accept}
use Rattle.mj_rules.specs.Outcome.{drawn_or, called_or_draw, behind_discard, next_winner, next_start, wall_now, follows, outcome, wall_of}
use Rattle.mj_rules.specs.Draws.{drawn_hand}
use Rattle.mj_rules.specs.Played.{AllLawful}
use Rattle.mj_rules.proofs.Stages.{Waits, Acts, MadeKan, ShowedDora, stage_of, stage_is}
use Rattle.mj_rules.proofs.Kept.{first_seat, IsNext}
use Rattle.mj_rules.proofs.Reds.{place_is_real}
use Rattle.mj_rules.proofs.Answered.{IfAny, Clean, clean_at, act_next, call_next}
use Rattle.mj_rules.proofs.Winning.{Fair, win_next, accept_next}
use Rattle.mj_rules.proofs.Drawing.{drawn_next}
use Rattle.mj_rules.proofs.Starting.{start_next, hand_next, end_next, game_end_next}

-- what follows

-- The next live tile, or the end of the hand where none is left.
pub draw_or : (P : Deed → Type 0) (wall : List ℕ) (ds : List Deed) (seat : ℕ) → P (drawn_hand ds reasons.Fanpai) →
    ((live_tiles (hand ds) == 0) ≡ false → P (Draw seat (live_tile wall (live_draws (hand ds))) false)) → P (next_draw wall ds seat)
unfolding next_draw
draw_or P wall ds seat drawn draws = by_test (live_tiles (hand ds) == 0) draws
  where
    by_test : (b : Bool) → (b ≡ false → P (Draw seat (live_tile wall (live_draws (hand ds))) false)) →
        P (cond b (drawn_hand ds reasons.Fanpai) (Draw seat (live_tile wall (live_draws (hand ds))) false))
    by_test true f = drawn
    by_test false f = f refl

draw_next : (red : Bool) (walls : List (List ℕ)) (ds : List Deed) (n : Deed) (seat : ℕ) → Fair red walls ds → newest ds ≡ Some n →
    stage_of ds ≡ Waits → (is_in_hand (Some n) && not (is_after_dora (Some n))) ≡ true → seat < 4 →
    IsNext red walls ds (next_draw (wall_now walls ds) ds seat)
unfolding ground_of
draw_next red walls ds n seat fair e waits begun small =
    draw_or (IsNext red walls ds) (wall_now walls ds) ds seat
    (drawn_next red walls ds reasons.Fanpai fair (ap is_in_hand e ∙ (and_parts (is_in_hand (Some n)) (not (is_after_dora (Some n))) begun).0))
    (λ some. record {
      place = ap (λ o. is_in_hand o && not (is_after_dora o)) e ∙ begun;
      seats = and_from (ltb seat 4) true (lt-ltb seat 4 small) refl;
      held = λ other. refl;
      triplet = refl;
      even = refl;
      tiles = place_is_real red (wall_now walls ds) (52 + live_draws (hand ds)) (fair.whole (hand_number ds));
      live = left (live_tiles (hand ds)) some;
      once = refl;
      pointed = refl;
      stage = waits;
      brings = refl;
    })
  where
    left : (l : ℕ) → eqb l 0 ≡ false → ltb 0 l ≡ true
    left l k = lt-ltb 0 l (some l (eqb-false l 0 k))
      where
        some : (l : ℕ) → (l ≡ 0 → ⊥) → 0 < l
        some l h = omega arith

dora_next : (red : Bool) (walls : List (List ℕ)) (ds : List Deed) (n : Deed) → ((number : ℕ) → is_wall red (wall_of walls number) ≡ true) →
    newest ds ≡ Some n → stage_of ds ≡ MadeKan → is_after_kan (Some n) ≡ true →
    IsNext red walls ds (next_dora (wall_now walls ds) (hand ds))
unfolding next_dora ground_of
dora_next red walls ds n h e made kan = record {
  place = ap is_after_kan e ∙ kan;
  seats = refl;
  held = λ other. refl;
  triplet = refl;
  even = refl;
  tiles = place_is_real red (wall_now walls ds) (131 - 2 * length (indicators (hand ds))) (h (hand_number ds));
  live = refl;
  once = refl;
  pointed = refl;
  stage = made;
  brings = refl;
}

a_seat : (seats : List ℕ) (i : ℕ) → All (λ s. s < 4) seats → unwrap_or (slice_get seats i) 0 < 4
a_seat [] i h = omega arith
a_seat (s ∷ ss) zero h = All-head (λ x. x < 4) s ss h
a_seat (s ∷ ss) (suc i) h = a_seat ss i (All-tail (λ x. x < 4) s ss h)

replacement_next : (red : Bool) (walls : List (List ℕ)) (ds : List Deed) (shown : ℕ) → ((number : ℕ) → is_wall red (wall_of walls number) ≡ true) → newest ds ≡ Some (Dora shown) →
    All (λ s. s < 4) (kan_seats (hand ds)) → IsNext red walls ds (next_replacement (wall_now walls ds) (hand ds))
unfolding next_replacement ground_of
replacement_next red walls ds shown h e seats = record {
  place = ap (λ o. is_in_hand o && is_after_dora o) e;
  seats = and_from (ltb (newest_kan_seat (hand ds)) 4) true (lt-ltb (newest_kan_seat (hand ds)) 4 (a_seat (kan_seats (hand ds)) (length (kan_seats (hand ds)) - 1) seats)) refl;
  held = λ other. refl;
  triplet = refl;
  even = refl;
  tiles = place_is_real red (wall_now walls ds) (135 - (kans (hand ds) - 1)) (h (hand_number ds));
  live = refl;
  once = refl;
  pointed = refl;
  stage = stage_is ds (Dora shown) ShowedDora e (λ before. refl);
  brings = refl;
}

seat_below : (who : ℕ) → next_seat who < 4
seat_below who = omega arith

-- The call that was kept with an accepted reach.
abbrev pub kept_call : Option Deed → Option Deed
kept_call None = None
kept_call (Some (ReachAccepted who points bid)) = call_of_bid bid
kept_call (Some other) = None

-- What is known of the deeds before.
pub record Known (red : Bool) (walls : List (List ℕ)) (ds : List Deed) : Type 0 where
  pub fair : Fair red walls ds
  pub none : is_after_start (newest ds) ≡ true → length (starts ds) ≡ 0
  pub later : (next : Standing) → is_after_hand (newest ds) ≡ true → standing_after (standing ds) (hand ds) ≡ Some next → (next.dealer < 4) × (next.hand ≡ length (starts ds))
  pub kans : All (λ s. s < 4) (kan_seats (hand ds))
  pub seated : IfAny (λ d. has_seats d ≡ true) (newest ds)
  pub real : IfAny (λ d. has_tiles red d ≡ true) (newest ds)
  pub promised : IfAny (IsNext red walls ds) (kept_call (newest ds))
  pub free : (who tile : ℕ) (drawn : Bool) → newest ds ≡ Some (Discard who tile drawn) → option_map_or is_reach (before_newest (hand ds)) false ≡ true → is_in_riichi (hand ds) who ≡ false

-- The first tile of a deed is of the game.
first_real : (red : Bool) (tile : ℕ) (tiles : List ℕ) → list_all (is_face red) (tile ∷ tiles) ≡ true → (is_face red tile && true) ≡ true
first_real red tile tiles h = and_from (is_face red tile) true (and_parts (is_face red tile) (list_all (is_face red) tiles) h).0 refl

-- a win, or what a seat does

pub won_or_acts : (P : Deed → Type 0) (wall : List ℕ) (ds : List Deed) (n : Deed) (who : ℕ) (answer : Answer) → P (win_deed wall ds who who (won_tile n) []) → P (drawn_hand ds reasons.Kyushukyuhai) →
    IfAny P (act_of who answer) → IfAny P (own_act wall ds n who answer)
won_or_acts P wall ds n who (answers.Win actor target tile) won drawn acts = won
won_or_acts P wall ds n who (answers.NineKinds actor) won drawn acts = drawn
won_or_acts P wall ds n who other won drawn acts = acts

pub discards_only : (P : Deed → Type 0) (wall : List ℕ) (ds : List Deed) (n : Deed) (who : ℕ) (answer : Answer) → is_discard answer ≡ true →
    IfAny P (act_of who answer) → IfAny P (own_act wall ds n who answer)
discards_only P wall ds n who (answers.Win actor target tile) h g = cc
discards_only P wall ds n who (answers.NineKinds actor) h g = cc
discards_only P wall ds n who other h g = g

pub turn_is : (ds : List Deed) (seat : ℕ) (n : Deed) → newest ds ≡ Some n → (view_of ds seat).turn ≡ turn_by n
unfolding view_of
turn_is ds seat n e = ap (λ o. turn_in (option_map turn_by o)) e

-- Who reached or called may only discard.
pub called_opens : (rules : Rules) (ds : List Deed) (n : Deed) (who : ℕ) (banned : List ℕ) (answer : Answer) → newest ds ≡ Some n →
    turn_by n ≡ Called who banned → Clean rules who (view_of ds who) answer → is_discard answer ≡ true
called_opens rules ds n who banned answer e turn c =
    ap (λ b. cond b (is_discard answer) (is_pass answer)) (sym (eq-eqb who who refl))
    ∙ ap (λ t. is_open rules who t (view_of ds who).accepted answer) (sym (turn_is ds who n e ∙ turn))
    ∙ not-false (is_open rules who (view_of ds who).turn (view_of ds who).accepted answer) c.opens

pub reached_opens : (rules : Rules) (ds : List Deed) (n : Deed) (who : ℕ) (answer : Answer) → newest ds ≡ Some n → turn_by n ≡ Reached who →
    Clean rules who (view_of ds who) answer → is_discard answer ≡ true
reached_opens rules ds n who answer e turn c =
    ap (λ b. cond b (is_discard answer) (is_pass answer)) (sym (eq-eqb who who refl))
    ∙ ap (λ t. is_open rules who t (view_of ds who).accepted answer) (sym (turn_is ds who n e ∙ turn))
    ∙ not-false (is_open rules who (view_of ds who).turn (view_of ds who).accepted answer) c.opens

-- What a seat does lawfully at its own draw is one of its own acts.
pub drew_opens : (rules : Rules) (ds : List Deed) (n : Deed) (who : ℕ) (answer : Answer) → newest ds ≡ Some n → turn_by n ≡ Drew who →
    Clean rules who (view_of ds who) answer → is_own_act rules (view_of ds who).accepted answer ≡ true
drew_opens rules ds n who answer e turn c =
    ap (λ b. cond b (is_own_act rules (view_of ds who).accepted answer) false) (sym (eq-eqb who who refl))
    ∙ own (eq-eqb who who refl)
    ∙ ap (λ t. is_open rules who t (view_of ds who).accepted answer) (sym (turn_is ds who n e ∙ turn))
    ∙ not-false (is_open rules who (view_of ds who).turn (view_of ds who).accepted answer) c.opens
  where
    own : (who == who) ≡ true → cond (who == who) (is_own_act rules (view_of ds who).accepted answer) false ≡ is_open rules who (Drew who) (view_of ds who).accepted answer
    own e = ap (λ b. cond b (is_own_act rules (view_of ds who).accepted answer) false) e ∙ sym (ap (λ b. cond b (is_own_act rules (view_of ds who).accepted answer) (is_pass answer)) e)

-- the winners on a tile

pub filter_passes : (p q : ℕ → Bool) (xs : List ℕ) → list_all q xs ≡ true → list_all q (filter p xs) ≡ true
filter_passes p q [] h = refl
filter_passes p q (x ∷ xs) h =
    let parts = and_parts (q x) (list_all q xs) h in
    by_test (p x) parts.0 (filter_passes p q xs parts.1)
  where
    by_test : (b : Bool) → q x ≡ true → list_all q (filter p xs) ≡ true → list_all q (cond b (x ∷ filter p xs) (filter p xs)) ≡ true
    by_test true k l = and_from (q x) _ k l
    by_test false k l = l

pub turn_below : (n : ℕ) → nat_lt (n % 4) 4 ≡ true
turn_below n = lt-ltb (n % 4) 4 (omega arith)

pub rons_seated : (who : ℕ) (given : Four Answer) → list_all (λ seat. nat_lt seat 4) (rons_on who given) ≡ true
rons_seated who given =
    filter_passes (λ other. is_win (at_seat given other)) (λ seat. nat_lt seat 4) (seats_after who)
    (and_from (nat_lt ((who + 1) % 4) 4) _ (turn_below (who + 1)) (and_from (nat_lt ((who + 2) % 4) 4) _ (turn_below (who + 2)) (and_from (nat_lt ((who + 3) % 4) 4) true (turn_below (who + 3)) refl)))

-- The first winner, where there is one, or what is decided otherwise; at most two others win on the same tile, and what all winners pass
-- each of these does.
pub won_each : (P : Deed → Type 0) (rules : Rules) (walls : List (List ℕ)) (ds : List Deed) (n : Deed) (p : ℕ → Bool) (seats : List ℕ) (other : Decision) → list_all p seats ≡ true →
    ((seat : ℕ) (rest : List ℕ) → p seat ≡ true → list_all p rest ≡ true → length rest ≤ 2 →
    P (win_deed (wall_now walls ds) ds seat (seat_of n) (won_tile n) rest)) → IfAny P (follows rules walls ds n other) →
    IfAny P (follows rules walls ds n (rons_or seats other))
won_each P rules walls ds n p [] other h f g = g
won_each P rules walls ds n p (seat ∷ []) other h f g = f seat [] (and_parts (p seat) true h).0 refl (omega arith)
won_each P rules walls ds n p (seat ∷ a ∷ []) other h f g =
    let k = and_parts (p seat) (list_all p (a ∷ [])) h in
    f seat (a ∷ []) k.0 k.1 (omega arith)
won_each P rules walls ds n p (seat ∷ a ∷ b ∷ more) other h f g =
    let k = and_parts (p seat) (list_all p (a ∷ b ∷ more)) h in
    let l = and_parts (p a) (list_all p (b ∷ more)) k.1 in
    f seat (a ∷ b ∷ []) k.0 (and_from (p a) _ l.0 (and_from (p b) true (and_parts (p b) (list_all p more) l.1).0 refl)) (omega arith)

-- The first winner among seats 0 to 3, where there is one, or what is decided otherwise; at most two others win.
pub won_few : (P : Deed → Type 0) (rules : Rules) (walls : List (List ℕ)) (ds : List Deed) (n : Deed) (seats : List ℕ) (other : Decision) → list_all (λ seat. nat_lt seat 4) seats ≡ true →
    ((seat : ℕ) (rest : List ℕ) → seat < 4 → list_all (λ s. nat_lt s 4) rest ≡ true → length rest ≤ 2 →
    P (win_deed (wall_now walls ds) ds seat (seat_of n) (won_tile n) rest)) → IfAny P (follows rules walls ds n other) →
    IfAny P (follows rules walls ds n (rons_or seats other))
won_few P rules walls ds n seats other low f g =
    won_each P rules walls ds n (λ seat. nat_lt seat 4) seats other low (λ seat rest there others few. f seat rest (ltb-true seat 4 there) others few) g

-- The first winner among seats 0 to 3, where there is one, however many others win, or what is decided otherwise.
pub won_or : (P : Deed → Type 0) (rules : Rules) (walls : List (List ℕ)) (ds : List Deed) (n : Deed) (seats : List ℕ) (other : Decision) → list_all (λ seat. nat_lt seat 4) seats ≡ true →
    ((seat : ℕ) (rest : List ℕ) → seat < 4 → list_all (λ s. nat_lt s 4) rest ≡ true →
    P (win_deed (wall_now walls ds) ds seat (seat_of n) (won_tile n) rest)) → IfAny P (follows rules walls ds n other) →
    IfAny P (follows rules walls ds n (rons_or seats other))
won_or P rules walls ds n seats other low f g = won_few P rules walls ds n seats other low (λ seat rest there others few. f seat rest there others) g

-- after a discard

-- The bid that is taken, or a draw.
pub called_or : (P : Deed → Type 0) (wall : List ℕ) (ds : List Deed) (seat : ℕ) (bid : Bid) → IfAny P (call_of_bid bid) → P (next_draw wall ds (next_seat seat)) → P (called_or_draw wall ds seat bid)
called_or P wall ds seat bids.NoBid f g = g
called_or P wall ds seat (bids.Chi who target tile a b) f g = f
called_or P wall ds seat (bids.Pon who target tile a b) f g = f
called_or P wall ds seat (bids.OpenKan who target tile a b c) f g = f

-- Unless the hand is drawn.
pub unless : (P : Deed → Type 0) (rules : Rules) (ds : List Deed) (d : Deed) → ((why : Reason) → P (drawn_hand ds why)) → P d → P (drawn_or rules ds d)
unless P rules ds d drawn on = by_reason (reason rules.draws (hand ds))
  where
    by_reason : (o : Option Reason) → P (option_map_or (drawn_hand ds) o d)
    by_reason None = on
    by_reason (Some why) = drawn why

-- What is after a discard that nobody wins on.
pub behind_or : (P : Deed → Type 0) (rules : Rules) (wall : List ℕ) (ds : List Deed) (seat : ℕ) (bid : Bid) → (option_map_or is_reach (before_newest (hand ds)) false ≡ true → P (accept ds seat bid)) →
    ((why : Reason) → P (drawn_hand ds why)) → IfAny P (call_of_bid bid) → P (next_draw wall ds (next_seat seat)) → P (behind_discard rules wall ds seat bid)
behind_or P rules wall ds seat bid f drawn g h =
    by_test (option_map_or is_reach (before_newest (hand ds)) false) f (unless P rules ds (called_or_draw wall ds seat bid) drawn (called_or P wall ds seat bid g h))
  where
    by_test : (b : Bool) → (b ≡ true → P (accept ds seat bid)) → P (drawn_or rules ds (called_or_draw wall ds seat bid)) →
        P (cond b (accept ds seat bid) (drawn_or rules ds (called_or_draw wall ds seat bid)))
    by_test true k l = k refl
    by_test false k l = l

-- What is after a discard that nobody wins on, where a call or a pass is decided.
pub called_or_on : (P : Deed → Type 0) (rules : Rules) (walls : List (List ℕ)) (ds : List Deed) (who tile : ℕ) (drawn : Bool) (bid : Bid) → P (behind_discard rules (wall_now walls ds) ds who bid) →
    IfAny P (follows rules walls ds (Discard who tile drawn) (call_or_pass bid))
called_or_on P rules walls ds who tile drawn bids.NoBid f = f
called_or_on P rules walls ds who tile drawn (bids.Chi seat target t a b) f = f
called_or_on P rules walls ds who tile drawn (bids.Pon seat target t a b) f = f
called_or_on P rules walls ds who tile drawn (bids.OpenKan seat target t a b c) f = f

-- the end of a hand

-- The next hand, or the end of the game.
pub start_or_end : (P : Deed → Type 0) (walls : List (List ℕ)) (ds : List Deed) (o : Option Standing) →
    ((next : Standing) → o ≡ Some next → P (hand_start (wall_of walls next.hand) next (deposits ds))) →
    P (EndGame (points ds) (deposits ds)) → P (next_start walls ds o)
start_or_end P walls ds None starts ends = ends
start_or_end P walls ds (Some next) starts ends = starts next refl

winner_next : (red : Bool) (walls : List (List ℕ)) (ds : List Deed) (target tile : ℕ) (rest : List ℕ) → Fair red walls ds →
    is_after_result (newest ds) ≡ true → is_in_hand (newest ds) ≡ true → target < 4 →
    list_all (λ seat. nat_lt seat 4) rest ≡ true → (is_face red tile && true) ≡ true → IsNext red walls ds (next_winner (wall_now walls ds) ds target tile rest)
winner_next red walls ds target tile [] fair over begun there low real = end_next red walls ds over
winner_next red walls ds target tile (seat ∷ rest) fair over begun there low real =
    win_next red walls ds seat target tile rest fair begun (first_seat seat _ low) there (and_parts (ltb seat 4) (list_all (λ s. nat_lt s 4) rest) low).1 real

-- What follows the newest deed, of which this is known.
follower_next : (rules : Rules) (walls : List (List ℕ)) (ds : List Deed) (given : Four Answer) (n : Deed) → Known rules.red walls ds →
    newest ds ≡ Some n → has_seats n ≡ true → has_tiles rules.red n ≡ true →
    (is_after_start (Some n) ≡ true → length (starts ds) ≡ 0) → IfAny (IsNext rules.red walls ds) (kept_call (Some n)) → AllLawful rules ds given →
    IfAny (IsNext rules.red walls ds) (follows rules walls ds n (decision_by n given))
follower_next rules walls ds given (StartGame names) k e seats real none kept c = start_next rules.red walls ds names k.fair.whole (none refl) e
follower_next rules walls ds given (StartHand round number honba deposits dealer indicator hands) k e seats real none kept c =
    draw_next rules.red walls ds (StartHand round number honba deposits dealer indicator hands) dealer k.fair e
    (stage_is ds (StartHand round number honba deposits dealer indicator hands) Waits e (λ before. refl)) refl (first_seat dealer _ seats)
follower_next rules walls ds given (Draw who tile replacement) k e seats real none kept c =
    won_or_acts (IsNext rules.red walls ds) (wall_now walls ds) ds (Draw who tile replacement) who (at_seat given who)
    (win_next rules.red walls ds who who tile [] k.fair (ap is_in_hand e) (first_seat who _ seats) (first_seat who _ seats) refl real)
    (drawn_next rules.red walls ds reasons.Kyushukyuhai k.fair (ap is_in_hand e))
    (act_next rules walls ds (Draw who tile replacement) who (at_seat given who) e (stage_is ds (Draw who tile replacement) (Acts who) e (λ before. refl)) refl (first_seat who _ seats)
    k.fair.real (clean_at rules ds given who (first_seat who _ seats) c))
follower_next rules walls ds given (Discard who tile drawn) k e seats real none kept c =
    let waits = stage_is ds (Discard who tile drawn) Waits e (λ before. refl) in
    won_or (IsNext rules.red walls ds) rules walls ds (Discard who tile drawn) (rons_on who given) (call_or_pass (best_bid given)) (rons_seated who given)
    (λ seat rest low others. win_next rules.red walls ds seat who tile rest k.fair (ap is_in_hand e) low (first_seat who _ seats) others real)
    (called_or_on (IsNext rules.red walls ds) rules walls ds who tile drawn (best_bid given)
    (behind_or (IsNext rules.red walls ds) rules (wall_now walls ds) ds who (best_bid given)
    (λ reached. accept_next rules.red walls ds who (best_bid given) k.fair (ap is_in_hand e) (first_seat who _ seats) (k.free who tile drawn e reached) waits
    (call_next rules walls ds who tile drawn given e (first_seat who _ seats) k.fair.real (and_parts (is_face rules.red tile) true real).0 c))
    (λ why. drawn_next rules.red walls ds why k.fair (ap is_in_hand e))
    (call_next rules walls ds who tile drawn given e (first_seat who _ seats) k.fair.real (and_parts (is_face rules.red tile) true real).0 c)
    (draw_next rules.red walls ds (Discard who tile drawn) (next_seat who) k.fair e waits refl (seat_below who))))
follower_next rules walls ds given (Chi who target tile a b) k e seats real none kept c =
    let clean = clean_at rules ds given who (first_seat who _ seats) c in
    discards_only (IsNext rules.red walls ds) (wall_now walls ds) ds (Chi who target tile a b) who (at_seat given who)
    (called_opens rules ds (Chi who target tile a b) who _ (at_seat given who) e refl clean)
    (act_next rules walls ds (Chi who target tile a b) who (at_seat given who) e (stage_is ds (Chi who target tile a b) (Acts who) e (λ before. refl)) refl (first_seat who _ seats) k.fair.real clean)
follower_next rules walls ds given (Pon who target tile a b) k e seats real none kept c =
    let clean = clean_at rules ds given who (first_seat who _ seats) c in
    discards_only (IsNext rules.red walls ds) (wall_now walls ds) ds (Pon who target tile a b) who (at_seat given who)
    (called_opens rules ds (Pon who target tile a b) who _ (at_seat given who) e refl clean)
    (act_next rules walls ds (Pon who target tile a b) who (at_seat given who) e (stage_is ds (Pon who target tile a b) (Acts who) e (λ before. refl)) refl (first_seat who _ seats) k.fair.real clean)
follower_next rules walls ds given (OpenKan who target tile a b d) k e seats real none kept c =
    dora_next rules.red walls ds (OpenKan who target tile a b d) k.fair.whole e (stage_is ds (OpenKan who target tile a b d) MadeKan e (λ before. refl)) refl
follower_next rules walls ds given (ClosedKan who a b d x) k e seats real none kept c =
    dora_next rules.red walls ds (ClosedKan who a b d x) k.fair.whole e (stage_is ds (ClosedKan who a b d x) MadeKan e (λ before. refl)) refl
follower_next rules walls ds given (AddedKan who tile a b d) k e seats real none kept c =
    won_or (IsNext rules.red walls ds) rules walls ds (AddedKan who tile a b d) (rons_on who given) Pass (rons_seated who given)
    (λ seat rest low others. win_next rules.red walls ds seat who tile rest k.fair (ap is_in_hand e) low (first_seat who _ seats) others (first_real rules.red tile (a ∷ b ∷ d ∷ []) real))
    (dora_next rules.red walls ds (AddedKan who tile a b d) k.fair.whole e (stage_is ds (AddedKan who tile a b d) MadeKan e (λ before. refl)) refl)
follower_next rules walls ds given (Dora tile) k e seats real none kept c = replacement_next rules.red walls ds tile k.fair.whole e k.kans
follower_next rules walls ds given (Reach who) k e seats real none kept c =
    let clean = clean_at rules ds given who (first_seat who _ seats) c in
    discards_only (IsNext rules.red walls ds) (wall_now walls ds) ds (Reach who) who (at_seat given who)
    (reached_opens rules ds (Reach who) who (at_seat given who) e refl clean)
    (act_next rules walls ds (Reach who) who (at_seat given who) e (stage_is ds (Reach who) (Acts who) e (λ before. refl)) refl (first_seat who _ seats) k.fair.real clean)
follower_next rules walls ds given (ReachAccepted who points bid) k e seats real none kept c =
    unless (IsNext rules.red walls ds) rules ds (called_or_draw (wall_now walls ds) ds who bid)
    (λ why. drawn_next rules.red walls ds why k.fair (ap is_in_hand e))
    (called_or (IsNext rules.red walls ds) (wall_now walls ds) ds who bid kept
    (draw_next rules.red walls ds (ReachAccepted who points bid) (next_seat who) k.fair e (stage_is ds (ReachAccepted who points bid) Waits e (λ before. refl)) refl (seat_below who)))
follower_next rules walls ds given (Win who target tile unders own yaku fu han value deltas points rest) k e seats real none kept c =
    let p = and_parts (ltb who 4) (list_all (λ s. nat_lt s 4) (target ∷ rest)) seats in
    winner_next rules.red walls ds target tile rest k.fair (ap is_after_result e) (ap is_in_hand e) (first_seat target _ p.1) (and_parts (ltb target 4) (list_all (λ s. nat_lt s 4) rest) p.1).1
    (first_real rules.red tile (unders ++ own) real)
follower_next rules walls ds given (DrawnHand reason hands ready deltas points) k e seats real none kept c = end_next rules.red walls ds (ap is_after_result e)
follower_next rules walls ds given EndHand k e seats real none kept c =
    start_or_end (IsNext rules.red walls ds) walls ds (standing_after (standing ds) (hand ds))
    (λ next after. hand_next rules.red walls ds next k.fair.whole e after (k.later next (ap is_after_hand e) after))
    (game_end_next rules.red walls ds k.fair (ap is_after_hand e))
follower_next rules walls ds given (EndGame points deposits) k e seats real none kept c = tt

-- What follows the newest deed comes in its turn.
pub outcome_next : (rules : Rules) (walls : List (List ℕ)) (ds : List Deed) (given : Four Answer) → Known rules.red walls ds →
    AllLawful rules ds given → IfAny (IsNext rules.red walls ds) (outcome rules walls ds given)
unfolding outcome
outcome_next rules walls ds given k c = by_newest (newest ds) refl k.seated k.real k.none k.promised
  where
    by_newest : (o : Option Deed) → newest ds ≡ o → IfAny (λ d. has_seats d ≡ true) o → IfAny (λ d. has_tiles rules.red d ≡ true) o → (is_after_start o ≡ true → length (starts ds) ≡ 0) →
        IfAny (IsNext rules.red walls ds) (kept_call o) → IfAny (IsNext rules.red walls ds) (option_and_then (λ last. follows rules walls ds last (decision_by last given)) o)
    by_newest None e f g h i = tt
    by_newest (Some n) e f g h i = follower_next rules walls ds given n k e f g h i c
