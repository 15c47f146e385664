-- What the deed that follows owes beside its turn, for what comes after it: who reaches is not in riichi yet, a reach is
-- accepted after its discard, and a call that is kept with it takes that discard.
use Rattle.std.proofs.Common.{◌≡◌, ℕ, ◌+◌, ◌-◌, ◌&&◌, ◌||◌, Bool, true, false, cond, List, [], ◌∷◌, ◌++◌, length, take, refl, ap, sym, ◌∙◌, subst, arith, append-nil}
use Rattle.std.specs.Prelude.{ℤ, Option, Some, None, IsTrue, nat_lt, option_and_then}
use Rattle.std.specs.Option.{option_map_or}
use Rattle.std.specs.List.{list_all}
use Rattle.std.proofs.lemmas.Bool.{and_parts, not-true}
use Rattle.std.proofs.lemmas.List.Concat.{flat_map-append}
use Rattle.std.proofs.lemmas.List.Sums.{sum_by_push}
use Rattle.mj_deeds.specs.declared.four.Four.{Four}
use Rattle.mj_deeds.specs.declared.answer.Pai.TheVariants.{Known, Hidden}
use Rattle.mj_deeds.specs.declared.answer.Answer.{Answer}
use Rattle.mj_deeds.specs.declared.answer.Answer.TheVariants as answers
use Rattle.mj_deeds.specs.declared.bid.Bid.{Bid}
use Rattle.mj_deeds.specs.declared.bid.Bid.TheVariants as bids
use Rattle.mj_deeds.specs.declared.reason.Reason.{Reason}
use Rattle.mj_deeds.specs.declared.reason.Reason.TheVariants as reasons
use Rattle.mj_deeds.specs.declared.deed.Deed.{Deed}
use Rattle.mj_deeds.specs.declared.deed.Deed.TheVariants.{StartGame, StartHand, Draw, Discard, Chi, Pon, OpenKan, ClosedKan, AddedKan, Dora, Reach, ReachAccepted, Win, DrawnHand, EndHand, EndGame}
use Rattle.mj_deeds.specs.Bids.{call_of_bid}
use Rattle.mj_deeds.specs.Four.{at_seat}
use Rattle.mj_deeds.specs.Course.{is_reach}
use Rattle.mj_deeds.specs.Facts.{newest, before_newest, gains_by, losses_by, tiles_gained, tiles_lost, is_kan, kans, is_live_draw, live_draws, live_tiles}
use Rattle.mj_deeds.specs.Fits.{ground_of, all_fit, is_in_hand, taken_from, is_discard_of, are_held, has_seats, is_face, has_tiles}
use Rattle.mj_deeds.specs.Hand.{is_hand_start, hand}
use Rattle.mj_deeds.specs.Riichi.{is_in_riichi}
use Rattle.mj_deeds.proofs.HandSteps.{behind, hand_more, hand_is}
use Rattle.mj_deeds.proofs.Fitted.{hand_begun}
use Rattle.mj_deeds.proofs.Newest.{newest_more, before_more}
use Rattle.mj_deeds.proofs.RiichiLaws.{accepted_more}
use Rattle.mj_window.specs.Decided.{decision_by, best_bid, call_or_pass, rons_on}
use Rattle.mj_window.specs.declared.decision.Decision.TheVariants.{Pass}
use Rattle.mj_deeds.specs.Points.{deposits}
use Rattle.mj_deeds.specs.Standings.{standing}
use Rattle.mj_deeds.specs.Ends.{standing_after}
use Rattle.mj_rounds.specs.declared.rounds.Standing.{Standing}
use Rattle.mj_rounds.specs.Rounds.{first_standing}
use Rattle.mj_wall.specs.declared.setting.Rules.{Rules}
use Rattle.mj_rules.specs.Broken.{is_discard}
use Rattle.mj_rules.specs.View.{view_of, turn_by, Drew}
use Rattle.mj_rules.specs.Wins.{win_shown, win_deed}
use Rattle.mj_rules.specs.Outcome.{hand_start, next_draw, next_dora, next_replacement, act_of, accept, next_winner, called_or_draw, wall_of, wall_now, follows, outcome}
use Rattle.mj_rules.specs.Draws.{draw_shown, drawn_hand}
use Rattle.mj_rules.specs.Played.{AllLawful, is_game_start}
use Rattle.mj_rules.proofs.Stages.{Waits, Acts, stage_of, newest_behind, stage_is}
use Rattle.mj_rules.proofs.Kept.{first_seat, IsNext}
use Rattle.mj_rules.proofs.Answered.{IfAny, Clean, clean_at, call_next}
use Rattle.mj_rules.proofs.Turns.{Known as KnownBefore, kept_call, won_or_acts, discards_only, called_opens, reached_opens, drew_opens}
use Rattle.mj_rules.proofs.Turns.{rons_seated, won_or, draw_or, called_or, unless, behind_or, called_or_on, start_or_end}

-- The newest deed is a discard of the seat, right after a reach.
abbrev pub Discarded : List Deed → ℕ → Type 0
Discarded ds who = (tile : ℕ) × (drawn : Bool) × (newest ds ≡ Some (Discard who tile drawn)) × (option_map_or is_reach (before_newest (hand ds)) false ≡ true)

-- What a deed of its kind owes so.
abbrev pub Promise : Bool → List (List ℕ) → List Deed → Deed → Type 0
Promise red walls ds (Reach who) = is_in_riichi (hand ds) who ≡ false
Promise red walls ds (ReachAccepted who said bid) = IfAny (IsNext red walls ds) (call_of_bid bid) × (taken_from (hand ds) (newest ds) ≡ newest ds) × Discarded ds who
Promise red walls ds other = Unit {0}

-- what owes nothing

call_owes_nothing : (red : Bool) (walls : List (List ℕ)) (ds : List Deed) (bid : Bid) → IfAny (Promise red walls ds) (call_of_bid bid)
call_owes_nothing red walls ds bids.NoBid = tt
call_owes_nothing red walls ds (bids.Chi who target tile a b) = tt
call_owes_nothing red walls ds (bids.Pon who target tile a b) = tt
call_owes_nothing red walls ds (bids.OpenKan who target tile a b c) = tt

drawn_owes_nothing : (red : Bool) (walls : List (List ℕ)) (ds : List Deed) (why : Reason) → Promise red walls ds (drawn_hand ds why)
unfolding draw_shown
drawn_owes_nothing red walls ds why = tt

draw_owes_nothing : (red : Bool) (walls : List (List ℕ)) (ds : List Deed) (wall : List ℕ) (seat : ℕ) → Promise red walls ds (next_draw wall ds seat)
draw_owes_nothing red walls ds wall seat = draw_or (Promise red walls ds) wall ds seat (drawn_owes_nothing red walls ds reasons.Fanpai) (λ some. tt)

win_owes_nothing : (red : Bool) (walls : List (List ℕ)) (ds : List Deed) (wall : List ℕ) (seat target tile : ℕ) (rest : List ℕ) → Promise red walls ds (win_deed wall ds seat target tile rest)
unfolding win_shown
win_owes_nothing red walls ds wall seat target tile rest = tt

winner_owes_nothing : (red : Bool) (walls : List (List ℕ)) (ds : List Deed) (wall : List ℕ) (target tile : ℕ) (rest : List ℕ) → Promise red walls ds (next_winner wall ds target tile rest)
winner_owes_nothing red walls ds wall target tile [] = tt
winner_owes_nothing red walls ds wall target tile (seat ∷ rest) = win_owes_nothing red walls ds wall seat target tile rest

start_owes_nothing : (red : Bool) (walls : List (List ℕ)) (ds : List Deed) (wall : List ℕ) (next : Standing) (lying : ℕ) → Promise red walls ds (hand_start wall next lying)
unfolding hand_start
start_owes_nothing red walls ds wall next lying = tt

dora_owes_nothing : (red : Bool) (walls : List (List ℕ)) (ds : List Deed) (wall : List ℕ) (hs : List Deed) → Promise red walls ds (next_dora wall hs)
unfolding next_dora
dora_owes_nothing red walls ds wall hs = tt

replacement_owes_nothing : (red : Bool) (walls : List (List ℕ)) (ds : List Deed) (wall : List ℕ) (hs : List Deed) → Promise red walls ds (next_replacement wall hs)
unfolding next_replacement
replacement_owes_nothing red walls ds wall hs = tt

-- what a seat does

discard_owes_nothing : (red : Bool) (walls : List (List ℕ)) (ds : List Deed) (who : ℕ) (answer : Answer) → is_discard answer ≡ true → IfAny (Promise red walls ds) (act_of who answer)
discard_owes_nothing red walls ds who (answers.Discard actor (Known t) drawn) h = tt
discard_owes_nothing red walls ds who (answers.Discard actor Hidden drawn) h = tt
discard_owes_nothing red walls ds who other h = cc

-- Who reaches lawfully at its own draw is not in riichi yet.
act_owes : (rules : Rules) (walls : List (List ℕ)) (ds : List Deed) (n : Deed) (who : ℕ) (answer : Answer) → newest ds ≡ Some n → turn_by n ≡ Drew who → Clean rules who (view_of ds who) answer →
    IfAny (Promise rules.red walls ds) (act_of who answer)
unfolding view_of
act_owes rules walls ds n who (answers.Reach actor) e turn c = not-true (is_in_riichi (hand ds) who) (drew_opens rules ds n who (answers.Reach actor) e turn c)
act_owes rules walls ds n who (answers.Discard actor (Known t) drawn) e turn c = tt
act_owes rules walls ds n who (answers.Discard actor Hidden drawn) e turn c = tt
act_owes rules walls ds n who (answers.ClosedKan actor (Known x) (Known y) (Known z) (Known w)) e turn c = tt
act_owes rules walls ds n who (answers.ClosedKan actor Hidden y z w) e turn c = tt
act_owes rules walls ds n who (answers.ClosedKan actor (Known x) Hidden z w) e turn c = tt
act_owes rules walls ds n who (answers.ClosedKan actor (Known x) (Known y) Hidden w) e turn c = tt
act_owes rules walls ds n who (answers.ClosedKan actor (Known x) (Known y) (Known z) Hidden) e turn c = tt
act_owes rules walls ds n who (answers.AddedKan actor (Known t) (Known x) (Known y) (Known z)) e turn c = tt
act_owes rules walls ds n who (answers.AddedKan actor Hidden x y z) e turn c = tt
act_owes rules walls ds n who (answers.AddedKan actor (Known t) Hidden y z) e turn c = tt
act_owes rules walls ds n who (answers.AddedKan actor (Known t) (Known x) Hidden z) e turn c = tt
act_owes rules walls ds n who (answers.AddedKan actor (Known t) (Known x) (Known y) Hidden) e turn c = tt
act_owes rules walls ds n who other e turn c = tt

-- The reach of a discard is accepted with the call that was bid for it.
accept_owes : (red : Bool) (walls : List (List ℕ)) (ds : List Deed) (who tile : ℕ) (drawn : Bool) (bid : Bid) → newest ds ≡ Some (Discard who tile drawn) →
    option_map_or is_reach (before_newest (hand ds)) false ≡ true → IfAny (IsNext red walls ds) (call_of_bid bid) → Promise red walls ds (accept ds who bid)
unfolding accept
accept_owes red walls ds who tile drawn bid e reached call = (call, ap (taken_from (hand ds)) e ∙ sym e, (tile, drawn, e, reached))

-- What follows the newest deed owes so.
follower_owes : (rules : Rules) (walls : List (List ℕ)) (ds : List Deed) (given : Four Answer) (n : Deed) → newest ds ≡ Some n → has_seats n ≡ true →
    list_all (has_tiles rules.red) (hand ds) ≡ true → has_tiles rules.red n ≡ true → AllLawful rules ds given →
    IfAny (Promise rules.red walls ds) (follows rules walls ds n (decision_by n given))
follower_owes rules walls ds given (StartGame names) e seats real named c = start_owes_nothing rules.red walls ds _ first_standing 0
follower_owes rules walls ds given (StartHand round number honba deposits dealer indicator hands) e seats real named c = draw_owes_nothing rules.red walls ds (wall_now walls ds) dealer
follower_owes rules walls ds given (Draw who tile replacement) e seats real named c =
    won_or_acts (Promise rules.red walls ds) (wall_now walls ds) ds (Draw who tile replacement) who (at_seat given who)
    (win_owes_nothing rules.red walls ds (wall_now walls ds) who who tile [])
    (drawn_owes_nothing rules.red walls ds reasons.Kyushukyuhai)
    (act_owes rules walls ds (Draw who tile replacement) who (at_seat given who) e refl (clean_at rules ds given who (first_seat who _ seats) c))
follower_owes rules walls ds given (Discard who tile drawn) e seats real named c =
    won_or (Promise rules.red walls ds) rules walls ds (Discard who tile drawn) (rons_on who given) (call_or_pass (best_bid given)) (rons_seated who given)
    (λ seat rest low others. win_owes_nothing rules.red walls ds (wall_now walls ds) seat who tile rest)
    (called_or_on (Promise rules.red walls ds) rules walls ds who tile drawn (best_bid given)
    (behind_or (Promise rules.red walls ds) rules (wall_now walls ds) ds who (best_bid given)
    (λ reached. accept_owes rules.red walls ds who tile drawn (best_bid given) e reached (call_next rules walls ds who tile drawn given e
    (first_seat who _ seats) real (and_parts (is_face rules.red tile) true named).0 c))
    (drawn_owes_nothing rules.red walls ds)
    (call_owes_nothing rules.red walls ds (best_bid given))
    (draw_owes_nothing rules.red walls ds (wall_now walls ds) _)))
follower_owes rules walls ds given (Chi who target tile a b) e seats real named c =
    let opens = called_opens rules ds (Chi who target tile a b) who _ (at_seat given who) e refl (clean_at rules ds given who (first_seat who _ seats) c) in
    discards_only (Promise rules.red walls ds) (wall_now walls ds) ds (Chi who target tile a b) who (at_seat given who) opens (discard_owes_nothing rules.red walls ds who (at_seat given who) opens)
follower_owes rules walls ds given (Pon who target tile a b) e seats real named c =
    let opens = called_opens rules ds (Pon who target tile a b) who _ (at_seat given who) e refl (clean_at rules ds given who (first_seat who _ seats) c) in
    discards_only (Promise rules.red walls ds) (wall_now walls ds) ds (Pon who target tile a b) who (at_seat given who) opens (discard_owes_nothing rules.red walls ds who (at_seat given who) opens)
follower_owes rules walls ds given (OpenKan who target tile a b d) e seats real named c = dora_owes_nothing rules.red walls ds (wall_now walls ds) (hand ds)
follower_owes rules walls ds given (ClosedKan who a b d x) e seats real named c = dora_owes_nothing rules.red walls ds (wall_now walls ds) (hand ds)
follower_owes rules walls ds given (AddedKan who tile a b d) e seats real named c =
    won_or (Promise rules.red walls ds) rules walls ds (AddedKan who tile a b d) (rons_on who given) Pass (rons_seated who given)
    (λ seat rest low others. win_owes_nothing rules.red walls ds (wall_now walls ds) seat who tile rest) (dora_owes_nothing rules.red walls ds (wall_now walls ds) (hand ds))
follower_owes rules walls ds given (Dora tile) e seats real named c = replacement_owes_nothing rules.red walls ds (wall_now walls ds) (hand ds)
follower_owes rules walls ds given (Reach who) e seats real named c =
    let opens = reached_opens rules ds (Reach who) who (at_seat given who) e refl (clean_at rules ds given who (first_seat who _ seats) c) in
    discards_only (Promise rules.red walls ds) (wall_now walls ds) ds (Reach who) who (at_seat given who) opens (discard_owes_nothing rules.red walls ds who (at_seat given who) opens)
follower_owes rules walls ds given (ReachAccepted who points bid) e seats real named c =
    unless (Promise rules.red walls ds) rules ds (called_or_draw (wall_now walls ds) ds who bid)
    (drawn_owes_nothing rules.red walls ds)
    (called_or (Promise rules.red walls ds) (wall_now walls ds) ds who bid (call_owes_nothing rules.red walls ds bid) (draw_owes_nothing rules.red walls ds (wall_now walls ds) _))
follower_owes rules walls ds given (Win who target tile unders own yaku fu han value deltas points rest) e seats real named c =
    winner_owes_nothing rules.red walls ds (wall_now walls ds) target tile rest
follower_owes rules walls ds given (DrawnHand reason hands ready deltas points) e seats real named c = tt
follower_owes rules walls ds given EndHand e seats real named c =
    start_or_end (Promise rules.red walls ds) walls ds (standing_after (standing ds) (hand ds)) (λ next after. start_owes_nothing rules.red walls ds (wall_of walls next.hand) next (deposits ds)) tt
follower_owes rules walls ds given (EndGame points deposits) e seats real named c = tt

pub outcome_owes : (rules : Rules) (walls : List (List ℕ)) (ds : List Deed) (given : Four Answer) → KnownBefore rules.red walls ds → AllLawful rules ds given →
    IfAny (Promise rules.red walls ds) (outcome rules walls ds given)
unfolding outcome
outcome_owes rules walls ds given k c = by_newest (newest ds) refl k.seated k.real
  where
    by_newest : (o : Option Deed) → newest ds ≡ o → IfAny (λ d. has_seats d ≡ true) o → IfAny (λ d. has_tiles rules.red d ≡ true) o →
        IfAny (Promise rules.red walls ds) (option_and_then (λ last. follows rules walls ds last (decision_by last given)) o)
    by_newest None e f g = tt
    by_newest (Some n) e f g = follower_owes rules walls ds given n e f k.fair.real g c

pub game_owes_nothing : (red : Bool) (walls : List (List ℕ)) (d : Deed) → IsTrue (is_game_start d) → Promise red walls [] d
game_owes_nothing red walls (StartGame names) h = tt
game_owes_nothing red walls other h = cc

-- the newest deed of the hand

-- It is the newest one of the game.
pub newest_in : (ds : List Deed) → is_in_hand (newest ds) ≡ true → (hand ds ≡ [] → ⊥) → newest (hand ds) ≡ newest ds
newest_in ds begun some = by_newest (newest ds) refl begun
  where
    before : List Deed
    before = take (length ds - 1) ds

    by_shape : (n : Deed) (b : Bool) (h : List Deed) → hand ds ≡ cond b (n ∷ []) (behind h n) → newest (hand ds) ≡ Some n
    by_shape n true h k = ap newest k
    by_shape n false [] k = absurd (some k)
    by_shape n false (x ∷ h) k = ap newest k ∙ newest_more (x ∷ h) n

    by_newest : (o : Option Deed) → newest ds ≡ o → is_in_hand o ≡ true → newest (hand ds) ≡ o
    by_newest None e h = cc
    by_newest (Some n) e h = by_shape n (is_hand_start n) (hand before) (ap hand (newest_behind ds n e) ∙ hand_more before n)

-- After one deed more of the hand that one stands before the newest.
pub before_newest_is : (ds : List Deed) (d : Deed) → hand (ds ++ d ∷ []) ≡ hand ds ++ d ∷ [] → newest (hand ds) ≡ newest ds → before_newest (hand (ds ++ d ∷ [])) ≡ newest ds
before_newest_is ds d e f = ap before_newest e ∙ ap newest (before_more (hand ds) d) ∙ f

-- a reach may be accepted

-- Who has reached just now is not in riichi yet.
abbrev pub Unlocked : List Deed → Type 0
Unlocked ds = (who : ℕ) → newest ds ≡ Some (Reach who) → is_in_riichi (hand ds) who ≡ false

some_is : (a b : Deed) → Some a ≡ Some b → a ≡ b
some_is a b e = cc

reach_unlocked : (red : Bool) (walls : List (List ℕ)) (ds : List Deed) (who : ℕ) → all_fit red [] ds ≡ true → IsNext red walls ds (Reach who) → is_in_riichi (hand ds) who ≡ false →
    is_in_riichi (hand (ds ++ Reach who ∷ [])) who ≡ false
unfolding ground_of
reach_unlocked red walls ds who fit next free =
    ap (λ (xs : List Deed). is_in_riichi xs who) (hand_is ds (Reach who) (λ _ empty. hand_begun red ds fit next.place empty))
    ∙ accepted_more (hand ds) (Reach who) who
    ∙ ap (λ b. b || false) free

pub unlocked_more : (red : Bool) (walls : List (List ℕ)) (ds : List Deed) (d : Deed) → all_fit red [] ds ≡ true → IsNext red walls ds d → Promise red walls ds d → Unlocked (ds ++ d ∷ [])
unlocked_more red walls ds d fit next promise who e = reached (some_is d (Reach who) (sym (newest_more ds d) ∙ e))
  where
    reached : d ≡ Reach who → is_in_riichi (hand (ds ++ d ∷ [])) who ≡ false
    reached k =
        subst (λ (x : Deed). is_in_riichi (hand (ds ++ x ∷ [])) who ≡ false) (sym k)
        (reach_unlocked red walls ds who fit (subst (IsNext red walls ds) k next) (subst (Promise red walls ds) k promise))

-- The discard after a reach is one of the seat that reached.
pub same_seat : (ds : List Deed) (who : ℕ) → stage_of ds ≡ Acts who → option_map_or is_reach (newest ds) false ≡ true → newest ds ≡ Some (Reach who)
same_seat ds who acts h = by_newest (newest ds) refl h
  where
    seat_is : (a b : ℕ) → Acts a ≡ Acts b → a ≡ b
    seat_is a b e = cc

    by_newest : (o : Option Deed) → newest ds ≡ o → option_map_or is_reach o false ≡ true → o ≡ Some (Reach who)
    by_newest (Some (Reach other)) e k = ap (λ (seat : ℕ). Some (Reach seat)) (seat_is other who (sym (stage_is ds (Reach other) (Acts other) e (λ before. refl)) ∙ acts))
    by_newest None e k = cc
    by_newest (Some other) e k = cc

discard_free : (red : Bool) (walls : List (List ℕ)) (ds : List Deed) (who tile : ℕ) (drawn : Bool) → all_fit red [] ds ≡ true → Unlocked ds → IsNext red walls ds (Discard who tile drawn) →
    option_map_or is_reach (before_newest (hand (ds ++ Discard who tile drawn ∷ []))) false ≡ true → is_in_riichi (hand (ds ++ Discard who tile drawn ∷ [])) who ≡ false
unfolding ground_of
discard_free red walls ds who tile drawn fit unlocked next h =
    ap (λ (xs : List Deed). is_in_riichi xs who) with_it
    ∙ accepted_more (hand ds) (Discard who tile drawn) who
    ∙ ap (λ b. b || false) (unlocked who (same_seat ds who next.stage (ap (λ o. option_map_or is_reach o false)
    (sym (before_newest_is ds (Discard who tile drawn) with_it (newest_in ds next.place some))) ∙ h)))
  where
    some : hand ds ≡ [] → ⊥
    some empty = hand_begun red ds fit next.place empty

    with_it : hand (ds ++ Discard who tile drawn ∷ []) ≡ hand ds ++ Discard who tile drawn ∷ []
    with_it = hand_is ds (Discard who tile drawn) (λ _ empty. some empty)

-- So the reach of a discard may be accepted.
pub free_more : (red : Bool) (walls : List (List ℕ)) (ds : List Deed) (d : Deed) → all_fit red [] ds ≡ true → Unlocked ds → IsNext red walls ds d → (who tile : ℕ) (drawn : Bool) →
    newest (ds ++ d ∷ []) ≡ Some (Discard who tile drawn) → option_map_or is_reach (before_newest (hand (ds ++ d ∷ []))) false ≡ true → is_in_riichi (hand (ds ++ d ∷ [])) who ≡ false
free_more red walls ds d fit unlocked next who tile drawn e = discarded (some_is d (Discard who tile drawn) (sym (newest_more ds d) ∙ e))
  where
    discarded : d ≡ Discard who tile drawn → option_map_or is_reach (before_newest (hand (ds ++ d ∷ []))) false ≡ true → is_in_riichi (hand (ds ++ d ∷ [])) who ≡ false
    discarded k =
        subst (λ (x : Deed). option_map_or is_reach (before_newest (hand (ds ++ x ∷ []))) false ≡ true → is_in_riichi (hand (ds ++ x ∷ [])) who ≡ false) (sym k)
        (discard_free red walls ds who tile drawn fit unlocked (subst (IsNext red walls ds) k next))

-- a call that was kept

-- An accepted reach leaves what the seats hold, and how many live tiles and kans there are.

held_still : (hs : List Deed) (who : ℕ) (said : List ℤ) (bid : Bid) (seat : ℕ) (tiles : List ℕ) → are_held (tiles_gained hs seat) (tiles_lost hs seat) tiles ≡ true →
    are_held (tiles_gained (hs ++ ReachAccepted who said bid ∷ []) seat) (tiles_lost (hs ++ ReachAccepted who said bid ∷ []) seat) tiles ≡ true
held_still hs who said bid seat tiles h = (λ i. are_held (gained i) (lost i) tiles) ∙ h
  where
    gained : tiles_gained (hs ++ ReachAccepted who said bid ∷ []) seat ≡ tiles_gained hs seat
    gained = flat_map-append (gains_by seat) hs (ReachAccepted who said bid ∷ []) ∙ append-nil (tiles_gained hs seat)

    lost : tiles_lost (hs ++ ReachAccepted who said bid ∷ []) seat ≡ tiles_lost hs seat
    lost = flat_map-append (losses_by seat) hs (ReachAccepted who said bid ∷ []) ∙ append-nil (tiles_lost hs seat)

live_still : (hs : List Deed) (who : ℕ) (said : List ℤ) (bid : Bid) → (nat_lt (kans hs) 4 && nat_lt 0 (live_tiles hs)) ≡ true →
    (nat_lt (kans (hs ++ ReachAccepted who said bid ∷ [])) 4 && nat_lt 0 (live_tiles (hs ++ ReachAccepted who said bid ∷ []))) ≡ true
live_still hs who said bid h = (λ i. nat_lt (made i) 4 && nat_lt 0 (70 - draws i - made i)) ∙ h
  where
    plus : (n m : ℕ) → n ≡ m + 0 → n ≡ m
    plus n m e = omega arith

    made : kans (hs ++ ReachAccepted who said bid ∷ []) ≡ kans hs
    made = plus _ (kans hs) (sum_by_push (λ x. cond (is_kan x) 1 0) hs (ReachAccepted who said bid))

    draws : live_draws (hs ++ ReachAccepted who said bid ∷ []) ≡ live_draws hs
    draws = plus _ (live_draws hs) (sum_by_push (λ x. cond (is_live_draw x) 1 0) hs (ReachAccepted who said bid))

-- After the accepted reach of a discard that one may still be taken.
record Lies (ds : List Deed) (d : Deed) : Type 0 where
  within : hand (ds ++ d ∷ []) ≡ hand ds ++ d ∷ []
  taken : taken_from (hand (ds ++ d ∷ [])) (newest (ds ++ d ∷ [])) ≡ taken_from (hand ds) (newest ds)

lies : (red : Bool) (walls : List (List ℕ)) (ds : List Deed) (who : ℕ) (said : List ℤ) (bid : Bid) → all_fit red [] ds ≡ true → IsNext red walls ds (ReachAccepted who said bid) →
    taken_from (hand ds) (newest ds) ≡ newest ds → Lies ds (ReachAccepted who said bid)
unfolding ground_of
lies red walls ds who said bid fit next newest_stands = record {
  within = with_it;
  taken = ap (taken_from (hand (ds ++ ReachAccepted who said bid ∷ []))) (newest_more ds (ReachAccepted who said bid))
      ∙ before_newest_is ds (ReachAccepted who said bid) with_it (newest_in ds next.place some)
      ∙ sym newest_stands;
}
  where
    some : hand ds ≡ [] → ⊥
    some empty = hand_begun red ds fit next.place empty

    with_it : hand (ds ++ ReachAccepted who said bid ∷ []) ≡ hand ds ++ ReachAccepted who said bid ∷ []
    with_it = hand_is ds (ReachAccepted who said bid) (λ _ empty. some empty)

held_now : (ds : List Deed) (who : ℕ) (said : List ℤ) (kept : Bid) (seat : ℕ) (tiles : List ℕ) → Lies ds (ReachAccepted who said kept) →
    are_held (tiles_gained (hand ds) seat) (tiles_lost (hand ds) seat) tiles ≡ true →
    are_held (tiles_gained (hand (ds ++ ReachAccepted who said kept ∷ [])) seat) (tiles_lost (hand (ds ++ ReachAccepted who said kept ∷ [])) seat) tiles ≡ true
held_now ds who said kept seat tiles l h = ap (λ (hs : List Deed). are_held (tiles_gained hs seat) (tiles_lost hs seat) tiles) l.within ∙ held_still (hand ds) who said kept seat tiles h

waits_now : (ds : List Deed) (who : ℕ) (said : List ℤ) (kept : Bid) → stage_of (ds ++ ReachAccepted who said kept ∷ []) ≡ Waits
waits_now ds who said kept = stage_is (ds ++ ReachAccepted who said kept ∷ []) (ReachAccepted who said kept) Waits (newest_more ds (ReachAccepted who said kept)) (λ before. refl)

-- A call that was bid still comes in its turn.
call_kept : (red : Bool) (walls : List (List ℕ)) (ds : List Deed) (who : ℕ) (said : List ℤ) (kept bid : Bid) → Lies ds (ReachAccepted who said kept) → IfAny (IsNext red walls ds) (call_of_bid bid) →
    IfAny (IsNext red walls (ds ++ ReachAccepted who said kept ∷ [])) (call_of_bid bid)
unfolding ground_of
call_kept red walls ds who said kept bids.NoBid l c = tt
call_kept red walls ds who said kept (bids.Chi seat target tile x y) l c = record {
  place = ap (λ o. is_discard_of o target tile) l.taken ∙ c.place;
  seats = c.seats;
  held = λ other. held_now ds who said kept other (losses_by other (Chi seat target tile x y)) l (c.held other);
  triplet = refl;
  even = refl;
  tiles = c.tiles;
  live = refl;
  once = refl;
  pointed = refl;
  stage = waits_now ds who said kept;
  brings = tt;
}
call_kept red walls ds who said kept (bids.Pon seat target tile x y) l c = record {
  place = ap (λ o. is_discard_of o target tile) l.taken ∙ c.place;
  seats = c.seats;
  held = λ other. held_now ds who said kept other (losses_by other (Pon seat target tile x y)) l (c.held other);
  triplet = refl;
  even = c.even;
  tiles = c.tiles;
  live = refl;
  once = refl;
  pointed = refl;
  stage = waits_now ds who said kept;
  brings = tt;
}
call_kept red walls ds who said kept (bids.OpenKan seat target tile x y z) l c = record {
  place = ap (λ o. is_discard_of o target tile) l.taken ∙ c.place;
  seats = c.seats;
  held = λ other. held_now ds who said kept other (losses_by other (OpenKan seat target tile x y z)) l (c.held other);
  triplet = refl;
  even = refl;
  tiles = c.tiles;
  live = ap (λ (hs : List Deed). nat_lt (kans hs) 4 && nat_lt 0 (live_tiles hs)) l.within ∙ live_still (hand ds) who said kept c.live;
  once = refl;
  pointed = refl;
  stage = waits_now ds who said kept;
  brings = tt;
}

pub promised_more : (red : Bool) (walls : List (List ℕ)) (ds : List Deed) (d : Deed) → all_fit red [] ds ≡ true → IsNext red walls ds d → Promise red walls ds d →
    IfAny (IsNext red walls (ds ++ d ∷ [])) (kept_call (newest (ds ++ d ∷ [])))
promised_more red walls ds d fit next promise = subst (λ o. IfAny (IsNext red walls (ds ++ d ∷ [])) (kept_call o)) (sym (newest_more ds d)) (by_deed d next promise)
  where
    by_deed : (x : Deed) → IsNext red walls ds x → Promise red walls ds x → IfAny (IsNext red walls (ds ++ x ∷ [])) (kept_call (Some x))
    by_deed (ReachAccepted who said bid) n p = call_kept red walls ds who said bid bid (lies red walls ds who said bid fit n p.1) p.0
    by_deed other n p = tt
