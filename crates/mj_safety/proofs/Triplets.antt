-- In played deeds the three tiles of a pon are of one kind.
use Rattle.std.proofs.Common.{◌≡◌, ℕ, ◌&&◌, Bool, true, false, cond, List, [], ◌∷◌, ◌++◌, refl, sym, ◌∙◌, subst, append-nil, append_assoc}
use Rattle.std.specs.Prelude.{Option, Some, None, IsTrue, option_and_then}
use Rattle.std.specs.List.{list_all, list_any}
use Rattle.std.proofs.lemmas.Bool.{and_parts, and_from, not-false}
use Rattle.std.proofs.lemmas.List.Folds.{list_all-append}
use Rattle.mj_calls.specs.Shapes.{are_alike}
use Rattle.mj_deeds.specs.declared.four.Four.{Four}
use Rattle.mj_deeds.specs.declared.bid.Bid.{Bid}
use Rattle.mj_deeds.specs.declared.bid.Bid.TheVariants as bids
use Rattle.mj_deeds.specs.declared.reason.Reason.{Reason}
use Rattle.mj_deeds.specs.declared.reason.Reason.TheVariants as reasons
use Rattle.mj_deeds.specs.declared.answer.Pai.TheVariants.{Known, Hidden}
use Rattle.mj_deeds.specs.declared.answer.Answer.{Answer}
use Rattle.mj_deeds.specs.declared.answer.Answer.TheVariants as answers
use Rattle.mj_deeds.specs.declared.deed.Deed.{Deed}
use Rattle.mj_deeds.specs.declared.deed.Deed.TheVariants.{StartGame, StartHand, Draw, Discard, Chi, Pon, OpenKan, ClosedKan, AddedKan, Dora, Reach, ReachAccepted, Win, DrawnHand, EndHand, EndGame}
use Rattle.mj_deeds.specs.Bids.{call_of_bid}
use Rattle.mj_deeds.specs.Ends.{standing_after}
use Rattle.mj_deeds.specs.Facts.{newest}
use Rattle.mj_deeds.specs.Fits.{has_seats}
use Rattle.mj_deeds.specs.Four.{at_seat}
use Rattle.mj_deeds.specs.Hand.{is_hand_start, from_last, hand}
use Rattle.mj_deeds.specs.Standings.{standing}
use Rattle.mj_deeds.proofs.Newest.{newest_more}
use Rattle.mj_window.specs.Decided.{decision_by, triplet_bid, run_bid, best_bid, call_or_pass, rons_on}
use Rattle.mj_window.specs.declared.decision.Decision.TheVariants.{Pass}
use Rattle.mj_wall.specs.Places.{is_wall}
use Rattle.mj_wall.specs.declared.setting.Rules.{Rules}
use Rattle.mj_rules.specs.Draws.{draw_shown, drawn_hand}
use Rattle.mj_rules.specs.Outcome.{act_of, accept, next_winner, hand_start, next_draw, next_dora, next_replacement, wall_of, wall_now, follows, outcome}
use Rattle.mj_rules.specs.Played.{AllLawful, is_game_start, IsPlayedBehind, AllPlayed, IsPlayed}
use Rattle.mj_rules.specs.View.{view_of}
use Rattle.mj_rules.specs.Wins.{win_shown, win_deed}
use Rattle.mj_rules.proofs.Kept.{first_seat}
use Rattle.mj_rules.proofs.Playing.{played_sound, played_more}
use Rattle.mj_rules.proofs.Answered.{IfAny, Clean, clean_at, or_other, bid_next}
use Rattle.mj_rules.proofs.Turns.{called_opens, reached_opens, kept_call, won_or_acts, discards_only, won_or, rons_seated, draw_or, called_or, unless, behind_or, called_or_on, start_or_end}

abbrev bid_is_even : Bid → Bool
bid_is_even (bids.Pon seat target tile a b) = are_alike tile a && are_alike tile b
bid_is_even other = true

-- The tiles of a pon, and of one that is kept, are of one kind.
abbrev pub is_even : Deed → Bool
is_even (Pon who target tile a b) = are_alike tile a && are_alike tile b
is_even (ReachAccepted who points bid) = bid_is_even bid
is_even other = true

abbrev Even : Deed → Type 0
Even d = is_even d ≡ true

even_bid : (bid : Bid) → IfAny Even (call_of_bid bid) → bid_is_even bid ≡ true
even_bid bids.NoBid h = refl
even_bid (bids.Chi seat target tile a b) h = refl
even_bid (bids.Pon seat target tile a b) h = h
even_bid (bids.OpenKan seat target tile a b c) h = refl

bid_even : (bid : Bid) → bid_is_even bid ≡ true → IfAny Even (call_of_bid bid)
bid_even bids.NoBid h = tt
bid_even (bids.Chi seat target tile a b) h = refl
bid_even (bids.Pon seat target tile a b) h = h
bid_even (bids.OpenKan seat target tile a b c) h = refl

-- what lawful answers give

triplet_even : (rules : Rules) (ds : List Deed) (seat : ℕ) (answer : Answer) → Clean rules seat (view_of ds seat) answer → IfAny Even (call_of_bid (triplet_bid seat answer))
triplet_even rules ds seat (answers.Pon actor target (Known t) (Known x) (Known y)) c = not-false (are_alike t x && are_alike t y) c.good
triplet_even rules ds seat (answers.OpenKan actor target (Known t) (Known x) (Known y) (Known z)) c = refl
triplet_even rules ds seat (answers.Pon actor target Hidden x y) c = tt
triplet_even rules ds seat (answers.Pon actor target (Known t) Hidden y) c = tt
triplet_even rules ds seat (answers.Pon actor target (Known t) (Known x) Hidden) c = tt
triplet_even rules ds seat (answers.OpenKan actor target Hidden x y z) c = tt
triplet_even rules ds seat (answers.OpenKan actor target (Known t) Hidden y z) c = tt
triplet_even rules ds seat (answers.OpenKan actor target (Known t) (Known x) Hidden z) c = tt
triplet_even rules ds seat (answers.OpenKan actor target (Known t) (Known x) (Known y) Hidden) c = tt
triplet_even rules ds seat other c = tt

run_even : (seat : ℕ) (answer : Answer) → IfAny Even (call_of_bid (run_bid seat answer))
run_even seat (answers.Chi actor target (Known t) (Known x) (Known y)) = refl
run_even seat (answers.Chi actor target Hidden x y) = tt
run_even seat (answers.Chi actor target (Known t) Hidden y) = tt
run_even seat (answers.Chi actor target (Known t) (Known x) Hidden) = tt
run_even seat other = tt

act_even : (who : ℕ) (answer : Answer) → IfAny Even (act_of who answer)
act_even who (answers.Reach actor) = refl
act_even who (answers.Discard actor (Known t) drawn) = refl
act_even who (answers.Discard actor Hidden drawn) = tt
act_even who (answers.ClosedKan actor (Known x) (Known y) (Known z) (Known w)) = refl
act_even who (answers.ClosedKan actor Hidden y z w) = tt
act_even who (answers.ClosedKan actor (Known x) Hidden z w) = tt
act_even who (answers.ClosedKan actor (Known x) (Known y) Hidden w) = tt
act_even who (answers.ClosedKan actor (Known x) (Known y) (Known z) Hidden) = tt
act_even who (answers.AddedKan actor (Known t) (Known x) (Known y) (Known z)) = refl
act_even who (answers.AddedKan actor Hidden x y z) = tt
act_even who (answers.AddedKan actor (Known t) Hidden y z) = tt
act_even who (answers.AddedKan actor (Known t) (Known x) Hidden z) = tt
act_even who (answers.AddedKan actor (Known t) (Known x) (Known y) Hidden) = tt
act_even who other = tt

drawn_even : (ds : List Deed) (why : Reason) → Even (drawn_hand ds why)
unfolding draw_shown
drawn_even ds why = refl

draw_even : (ds : List Deed) (wall : List ℕ) (seat : ℕ) → Even (next_draw wall ds seat)
draw_even ds wall seat = draw_or Even wall ds seat (drawn_even ds reasons.Fanpai) (λ some. refl)

win_even : (ds : List Deed) (wall : List ℕ) (seat target tile : ℕ) (rest : List ℕ) → Even (win_deed wall ds seat target tile rest)
unfolding win_shown
win_even ds wall seat target tile rest = refl

accept_even : (ds : List Deed) (seat : ℕ) (bid : Bid) → IfAny Even (call_of_bid bid) → Even (accept ds seat bid)
unfolding accept
accept_even ds seat bid h = even_bid bid h

winner_even : (ds : List Deed) (wall : List ℕ) (target tile : ℕ) (rest : List ℕ) → Even (next_winner wall ds target tile rest)
winner_even ds wall target tile [] = refl
winner_even ds wall target tile (seat ∷ rest) = win_even ds wall seat target tile rest

call_even : (rules : Rules) (ds : List Deed) (given : Four Answer) → AllLawful rules ds given → IfAny Even (call_of_bid (best_bid given))
unfolding best_bid
call_even rules ds given c =
    or_other Even _ _ (bid_next Even triplet_bid given (λ seat h. triplet_even rules ds seat (at_seat given seat) (clean_at rules ds given seat h c)))
    (bid_next Even run_bid given (λ seat h. run_even seat (at_seat given seat)))

follower_even : (rules : Rules) (walls : List (List ℕ)) (ds : List Deed) (given : Four Answer) (n : Deed) → newest ds ≡ Some n → has_seats n ≡ true →
    IfAny Even (kept_call (Some n)) → AllLawful rules ds given →
    IfAny Even (follows rules walls ds n (decision_by n given))
unfolding hand_start next_dora next_replacement
follower_even rules walls ds given (StartGame names) e seats k c = refl
follower_even rules walls ds given (StartHand round number honba deposits dealer indicator hands) e seats k c = draw_even ds (wall_now walls ds) dealer
follower_even rules walls ds given (Draw who tile replacement) e seats k c =
    won_or_acts Even (wall_now walls ds) ds (Draw who tile replacement) who (at_seat given who) (win_even ds (wall_now walls ds) who who tile [])
    (drawn_even ds reasons.Kyushukyuhai) (act_even who (at_seat given who))
follower_even rules walls ds given (Discard who tile drawn) e seats k c =
    let calls : IfAny Even (call_of_bid (best_bid given)) = call_even rules ds given c in
    won_or Even rules walls ds (Discard who tile drawn) (rons_on who given) (call_or_pass (best_bid given)) (rons_seated who given)
    (λ seat rest low others. win_even ds (wall_now walls ds) seat who tile rest)
    (called_or_on Even rules walls ds who tile drawn (best_bid given)
    (behind_or Even rules (wall_now walls ds) ds who (best_bid given) (λ reached. accept_even ds who (best_bid given) calls) (drawn_even ds) calls (draw_even ds (wall_now walls ds) _)))
follower_even rules walls ds given (Chi who target tile a b) e seats k c =
    let clean = clean_at rules ds given who (first_seat who _ seats) c in
    discards_only Even (wall_now walls ds) ds (Chi who target tile a b) who (at_seat given who) (called_opens rules ds (Chi who target tile a b) who _
    (at_seat given who) e refl clean) (act_even who (at_seat given who))
follower_even rules walls ds given (Pon who target tile a b) e seats k c =
    let clean = clean_at rules ds given who (first_seat who _ seats) c in
    discards_only Even (wall_now walls ds) ds (Pon who target tile a b) who (at_seat given who) (called_opens rules ds (Pon who target tile a b) who _
    (at_seat given who) e refl clean) (act_even who (at_seat given who))
follower_even rules walls ds given (OpenKan who target tile a b d) e seats k c = refl
follower_even rules walls ds given (ClosedKan who a b d x) e seats k c = refl
follower_even rules walls ds given (AddedKan who tile a b d) e seats k c =
    won_or Even rules walls ds (AddedKan who tile a b d) (rons_on who given) Pass (rons_seated who given) (λ seat rest low others. win_even ds (wall_now walls ds) seat who tile rest) refl
follower_even rules walls ds given (Dora tile) e seats k c = refl
follower_even rules walls ds given (Reach who) e seats k c =
    let clean = clean_at rules ds given who (first_seat who _ seats) c in
    discards_only Even (wall_now walls ds) ds (Reach who) who (at_seat given who) (reached_opens rules ds (Reach who) who (at_seat given who) e refl clean) (act_even who (at_seat given who))
follower_even rules walls ds given (ReachAccepted who points bid) e seats k c =
    unless Even rules ds _ (drawn_even ds) (called_or Even (wall_now walls ds) ds who bid k (draw_even ds (wall_now walls ds) _))
follower_even rules walls ds given (Win who target tile unders own yaku fu han value deltas points rest) e seats k c = winner_even ds (wall_now walls ds) target tile rest
follower_even rules walls ds given (DrawnHand reason hands ready deltas points) e seats k c = refl
follower_even rules walls ds given EndHand e seats k c = start_or_end Even walls ds (standing_after (standing ds) (hand ds)) (λ next after. refl) refl
follower_even rules walls ds given (EndGame points deposits) e seats k c = tt

outcome_even : (rules : Rules) (walls : List (List ℕ)) (ds : List Deed) (given : Four Answer) (d : Deed) → IfAny (λ n. has_seats n ≡ true) (newest ds)
    → IfAny Even (kept_call (newest ds)) → AllLawful rules ds given →
    outcome rules walls ds given ≡ Some d → Even d
unfolding outcome
outcome_even rules walls ds given d seats k c e = subst (IfAny Even) e (by_newest (newest ds) refl seats k)
  where
    by_newest : (o : Option Deed) → newest ds ≡ o → IfAny (λ n. has_seats n ≡ true) o → IfAny Even (kept_call o) →
        IfAny Even (option_and_then (λ last. follows rules walls ds last (decision_by last given)) o)
    by_newest None e seats k = tt
    by_newest (Some n) e seats k = follower_even rules walls ds given n e seats k c

start_even : (d : Deed) → IsTrue (is_game_start d) → Even d
start_even (Pon who target tile a b) h = cc
start_even (ReachAccepted who points bid) h = cc
start_even other h = refl

behind_even : (rules : Rules) (walls : List (List ℕ)) (ds : List Deed) (d : Deed) → IfAny (λ n. has_seats n ≡ true) (newest ds) →
    IfAny Even (kept_call (newest ds)) → IsPlayedBehind rules walls ds d → Even d
behind_even rules walls [] d seats k played = start_even d played
behind_even rules walls (first ∷ others) d seats k played = outcome_even rules walls (first ∷ others) played.given d seats k played.lawful played.gives

-- all of them

keeps_even : (d : Deed) → Even d → IfAny Even (kept_call (Some d))
keeps_even (ReachAccepted who points bid) h = bid_even bid h
keeps_even other h = tt

all_even : (rules : Rules) (walls : List (List ℕ)) (before ds : List Deed) → ((number : ℕ) → is_wall rules.red (wall_of walls number) ≡ true) →
    IsPlayed rules walls before → list_all is_even before ≡ true →
    IfAny Even (kept_call (newest before)) → AllPlayed rules walls before ds → list_all is_even (before ++ ds) ≡ true
all_even rules walls before [] whole old h k played = subst (λ (xs : List Deed). list_all is_even xs ≡ true) (sym (append-nil before)) h
all_even rules walls before (d ∷ ds) whole old h k played =
    let even = behind_even rules walls before d (played_sound rules walls before whole old).seated k played.0 in
    subst (λ (xs : List Deed). list_all is_even xs ≡ true) (append_assoc before (d ∷ []) ds)
    (all_even rules walls (before ++ d ∷ []) ds whole (played_more rules walls before d old played.0)
    (list_all-append is_even before (d ∷ []) ∙ and_from (list_all is_even before) _ h (and_from (is_even d) true even refl))
    (subst (λ (o : Option Deed). IfAny Even (kept_call o)) (sym (newest_more before d)) (keeps_even d even)) played.1)

from_last_passes : (p q : Deed → Bool) (ds : List Deed) → list_all p ds ≡ true → list_all p (from_last q ds) ≡ true
from_last_passes p q [] h = refl
from_last_passes p q (d ∷ ds) h = by_tests (list_any q ds) (q d) (from_last_passes p q ds (and_parts (p d) (list_all p ds) h).1) h
  where
    by_tests : (a b : Bool) → list_all p (from_last q ds) ≡ true → list_all p (d ∷ ds) ≡ true → list_all p (cond a (from_last q ds) (cond b (d ∷ ds) [])) ≡ true
    by_tests true b later all = later
    by_tests false true later all = all
    by_tests false false later all = refl

pub even_in_hand : (rules : Rules) (walls : List (List ℕ)) (ds : List Deed) → ((number : ℕ) → is_wall rules.red (wall_of walls number) ≡ true) →
    IsPlayed rules walls ds → list_all is_even (hand ds) ≡ true
unfolding hand
even_in_hand rules walls ds whole played = from_last_passes is_even is_hand_start ds (all_even rules walls [] ds whole tt refl tt played)
