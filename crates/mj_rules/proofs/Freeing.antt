-- A seat that called or reached has a tile that it may discard.
use Rattle.std.proofs.Common.{◌≡◌, ℕ, zero, suc, ◌+◌, ◌-◌, ◌<◌, ◌==◌, inl, inr, ◌&&◌, ◌||◌, not, Bool, true, false, cond, eqb, ltb}
use Rattle.std.proofs.Common.{List, [], ◌∷◌, ◌++◌, length, map, refl, ap, sym, ◌∙◌, subst, arith, append-nil, append_assoc}
use Rattle.std.specs.Prelude.{Option, Some, None, ℤ, nat_lt, nat_le, option_map, option_and_then, filter, flat_map, replicate, IsTrue}
use Rattle.std.specs.List.{list_all, list_any}
use Rattle.std.proofs.lemmas.Bool.{cases_eq, ne_eqb, eq-eqb, and_from, or_parts, leb-false, lt-ltb, not-true, not-false, true≢false}
use Rattle.std.proofs.lemmas.List.Concat.{flat_map-append}
use Rattle.std.proofs.lemmas.List.Folds.{list_any-append}
use Rattle.mj_tiles.specs.Faces.{kind_of, number_in, less, tile_order}
use Rattle.mj_tiles.specs.Counts.{kind_counts, room_beside}
use Rattle.mj_tiles.specs.Melds.{tiles_of_meld}
use Rattle.mj_tiles.specs.declared.meld.Meld.{Meld}
use Rattle.mj_waits.specs.Waits.{is_ready}
use Rattle.mj_calls.specs.Bans.{banned_kinds, is_banned}
use Rattle.mj_deeds.specs.declared.four.Four.{Four}
use Rattle.mj_deeds.specs.declared.answer.Pai.TheVariants.{Known, Hidden}
use Rattle.mj_deeds.specs.declared.answer.Answer.{Answer}
use Rattle.mj_deeds.specs.declared.answer.Answer.TheVariants as answers
use Rattle.mj_deeds.specs.declared.reason.Reason.{Reason}
use Rattle.mj_deeds.specs.declared.reason.Reason.TheVariants as reasons
use Rattle.mj_deeds.specs.declared.deed.Deed.{Deed}
use Rattle.mj_deeds.specs.declared.deed.Deed.TheVariants.{StartGame, StartHand, Draw, Discard, Chi, Pon, OpenKan, ClosedKan, AddedKan, Dora, Reach, ReachAccepted, Win, DrawnHand, EndHand, EndGame}
use Rattle.mj_deeds.specs.Four.{at_seat}
use Rattle.mj_deeds.specs.Facts.{newest, tiles_gained, tiles_lost, gains_by, losses_by, makes_by, adds_by, with_added}
use Rattle.mj_deeds.specs.Fits.{has_seats}
use Rattle.mj_deeds.specs.Riichi.{is_accepted_by, is_in_riichi}
use Rattle.mj_deeds.proofs.RiichiLaws.{accepted_more}
use Rattle.mj_deeds.proofs.Newest.{newest_more}
use Rattle.mj_deeds.proofs.Totals.{number_more}
use Rattle.mj_wall.specs.Places.{is_wall}
use Rattle.mj_rules.specs.Broken.{is_discard, is_pass, is_pass_or_call, is_open, has_nothing_else, is_ready_without}
use Rattle.mj_rules.specs.View.{SeatView, view_of, held_count, concealed, WindowTurn, Drew, Reached, Called, turn_by, turn_in}
use Rattle.mj_deeds.specs.Standings.{standing}
use Rattle.mj_deeds.specs.Ends.{standing_after}
use Rattle.mj_deeds.specs.Bids.{call_of_bid}
use Rattle.mj_deeds.specs.Hand.{is_hand_start, hand, before_in}
use Rattle.mj_deeds.proofs.HandSteps.{hand_with, hand_before}
use Rattle.mj_window.specs.Decided.{decision_by, triplet_bid, run_bid, best_bid, call_or_pass, rons_on}
use Rattle.mj_window.specs.declared.decision.Decision.TheVariants.{Pass}
use Rattle.mj_wall.specs.declared.setting.Rules.{Rules}
use Rattle.mj_rules.specs.Outcome.{act_of, own_act, accept, next_winner, called_or_draw, hand_start, next_draw, next_dora, next_replacement, wall_of, wall_now, follows, outcome}
use Rattle.mj_rules.specs.Wins.{win_shown, win_deed}
use Rattle.mj_rules.specs.Draws.{draw_shown, drawn_hand}
use Rattle.mj_deeds.specs.declared.bid.Bid.{Bid}
use Rattle.mj_deeds.specs.declared.bid.Bid.TheVariants as bids
use Rattle.mj_rules.specs.Played.{AllLawful, is_game_start, IsPlayedBehind, AllPlayed, IsPlayed}
use Rattle.mj_rules.proofs.Kept.{first_seat}
use Rattle.mj_rules.proofs.Playing.{played_sound, played_more}
use Rattle.mj_rules.proofs.Answered.{IfAny, Clean, clean_at, or_other, bid_next}
use Rattle.mj_rules.proofs.Turns.{turn_is, called_opens, reached_opens, drew_opens, kept_call, won_or_acts, discards_only}
use Rattle.mj_rules.proofs.Turns.{won_or, rons_seated, draw_or, called_or, unless, behind_or, called_or_on, start_or_end}

-- The faces that a seat holds and that pass a test, in tile order.
abbrev pub held_faces : SeatView → (ℕ → Bool) → List ℕ
held_faces view p = filter (λ face. nat_lt 0 (held_count view face) && p face) tile_order

-- Those of no banned kind.
unfoldable pub free_faces : SeatView → List ℕ → List ℕ
free_faces view banned = held_faces view (λ face. not (is_banned banned (kind_of face)))

-- Those whose discard leaves the hand ready.
unfoldable pub ready_faces : SeatView → List ℕ
ready_faces view = held_faces view (is_ready_without view)

-- Where a seat has to discard right after its own call, it is not in riichi, and some tile that it holds is of no banned
-- kind; right after its own reach the discard of some tile that it holds leaves its hand ready.
abbrev pub has_free_in : ℕ → SeatView → WindowTurn → Bool
has_free_in seat view (Called who banned) = not (who == seat) || (not view.accepted && nat_lt 0 (length (free_faces view banned)))
has_free_in seat view (Reached who) = not (who == seat) || (not view.accepted && nat_lt 0 (length (ready_faces view)))
has_free_in seat view other = true

abbrev pub has_free : List Deed → ℕ → Bool
has_free deeds seat = has_free_in seat (view_of deeds seat) (view_of deeds seat).turn

-- A deed is no call and no reach, or one of a seat that is not in riichi, and leaves it a tile that it may discard: one that a
-- call doesn't use, and one that leaves the hand of a reach ready.
abbrev Leaves : List Deed → Deed → Type 0
Leaves ds (Chi who target tile a b) = (has_nothing_else (view_of ds who) (a ∷ b ∷ []) (banned_kinds (Chi who target tile a b)) ≡ false) × ((view_of ds who).accepted ≡ false)
Leaves ds (Pon who target tile a b) = (has_nothing_else (view_of ds who) (a ∷ b ∷ []) (banned_kinds (Pon who target tile a b)) ≡ false) × ((view_of ds who).accepted ≡ false)
Leaves ds (Reach who) = (list_any (is_ready_without (view_of ds who)) (concealed (view_of ds who)) ≡ true) × ((view_of ds who).accepted ≡ false)
Leaves ds other = Unit {0}

-- Such a call, of another seat than this one.
abbrev Takes : List Deed → ℕ → Deed → Type 0
Takes ds who (Chi seat target tile a b) = Leaves ds (Chi seat target tile a b) × ((who == seat) ≡ false)
Takes ds who (Pon seat target tile a b) = Leaves ds (Pon seat target tile a b) × ((who == seat) ≡ false)
Takes ds who other = Unit {0}

-- What a deed keeps for the next one leaves its seat a tile then too.
abbrev Keeps : List Deed → Deed → Type 0
Keeps ds (ReachAccepted who said bid) = IfAny (Leaves (ds ++ ReachAccepted who said bid ∷ [])) (call_of_bid bid)
Keeps ds other = Unit {0}

-- Such a deed, whose kept call is such a one too.
abbrev Both : List Deed → Deed → Type 0
Both ds d = Leaves ds d × Keeps ds d

-- what a seat holds, one deed further

-- Who is not in riichi is not once another's reach was accepted.
still_out : (ds : List Deed) (d : Deed) (seat : ℕ) → is_accepted_by seat d ≡ false → (view_of ds seat).accepted ≡ false → (view_of (ds ++ d ∷ []) seat).accepted ≡ false
unfolding view_of
still_out ds d seat other h =
    hand_with (λ (xs : List Deed). is_in_riichi xs seat ≡ false) ds d (λ _ _. refl)
    (accepted_more (before_in (hand ds) d) d seat ∙ ap (λ b. b || is_accepted_by seat d) (hand_before (λ (xs : List Deed). is_in_riichi xs seat ≡ false) (hand ds) d refl h) ∙ other)

-- What a seat holds once it put some tiles down.
held_less : (ds : List Deed) (d : Deed) (seat face : ℕ) (used : List ℕ) → is_hand_start d ≡ false → gains_by seat d ≡ [] → losses_by seat d ≡ used →
    held_count (view_of (ds ++ d ∷ []) seat) face ≡ held_count (view_of ds seat) face - number_in used face
unfolding view_of
held_less ds d seat face used start g l =
    hand_with (λ xs. number_in (tiles_gained xs seat) face - number_in (tiles_lost xs seat) face ≡ number_in (tiles_gained (hand ds) seat) face -
    number_in (tiles_lost (hand ds) seat) face - number_in used face) ds d
    (λ _ empty. nothing _ _ _ (ap (λ (xs : List Deed). number_in (tiles_gained xs seat) face) empty))
    (subst (λ (xs : List Deed). number_in (tiles_gained (xs ++ d ∷ []) seat) face - number_in (tiles_lost (xs ++ d ∷ []) seat) face
    ≡ number_in (tiles_gained (hand ds) seat) face - number_in (tiles_lost (hand ds) seat) face - number_in used face) (sym (ap (λ b. cond b [] (hand ds)) start))
    (less _ _ _ _ _ _ _ (number_more (gains_by seat) (hand ds) d face) (number_more (losses_by seat) (hand ds) d face)
    (ap (λ (xs : List ℕ). number_in xs face) g) (ap (λ (xs : List ℕ). number_in xs face) l)))
  where
    nothing : (g l u : ℕ) → g ≡ 0 → 0 ≡ g - l - u
    nothing g l u e = omega arith

    less : (g' g x l' l y u : ℕ) → g' ≡ g + x → l' ≡ l + y → x ≡ 0 → y ≡ u → g' - l' ≡ g - l - u
    less g' g x l' l y u e f h k = omega arith

-- A call that was kept leaves what it left.
same_left : (old new : SeatView) (used banned : List ℕ) → ((face : ℕ) → held_count new face ≡ held_count old face) → has_nothing_else new used banned ≡ has_nothing_else old used banned
unfolding has_nothing_else
same_left old new used banned same = λ i. list_all (λ face. nat_le (same face i) (number_in used face) || is_banned banned (kind_of face)) tile_order

still_held : (ds : List Deed) (d : Deed) (seat face : ℕ) → is_hand_start d ≡ false → gains_by seat d ≡ [] → losses_by seat d ≡ [] →
    held_count (view_of (ds ++ d ∷ []) seat) face ≡ held_count (view_of ds seat) face
still_held ds d seat face start g l = held_less ds d seat face [] start g l ∙ plain (held_count (view_of ds seat) face)
  where
    plain : (n : ℕ) → n - 0 ≡ n
    plain n = omega arith

kept_leaves : (ds : List Deed) (who : ℕ) (said : List ℤ) (bid : Bid) → IfAny (Takes ds who) (call_of_bid bid) → IfAny (Leaves (ds ++ ReachAccepted who said bid ∷ [])) (call_of_bid bid)
kept_leaves ds who said bids.NoBid h = tt
kept_leaves ds who said (bids.Chi seat target tile a b) h =
    let d : Deed = ReachAccepted who said (bids.Chi seat target tile a b) in (
      same_left (view_of ds seat) (view_of (ds ++ d ∷ []) seat) (a ∷ b ∷ []) (banned_kinds (Chi seat target tile a b))
          (λ face. still_held ds d seat face refl refl refl) ∙ h.0.0,
      still_out ds d seat h.1 h.0.1,
    )
kept_leaves ds who said (bids.Pon seat target tile a b) h =
    let d : Deed = ReachAccepted who said (bids.Pon seat target tile a b) in (
      same_left (view_of ds seat) (view_of (ds ++ d ∷ []) seat) (a ∷ b ∷ []) (banned_kinds (Pon seat target tile a b))
          (λ face. still_held ds d seat face refl refl refl) ∙ h.0.0,
      still_out ds d seat h.1 h.0.1,
    )
kept_leaves ds who said (bids.OpenKan seat target tile a b c) h = tt

-- what lawful answers give

-- Who calls a discard is another seat than its own.
other_seat : (rules : Rules) (ds : List Deed) (who tile : ℕ) (drawn : Bool) (seat : ℕ) (answer : Answer) → newest ds ≡ Some (Discard who tile drawn) →
    is_pass answer ≡ false → Clean rules seat (view_of ds seat) answer →
    (who == seat) ≡ false
other_seat rules ds who tile drawn seat answer e call c = by_test (who == seat) opens
  where
    opens : cond (who == seat) (is_pass answer) (is_pass_or_call answer) ≡ true
    opens =
        ap (λ t. is_open rules seat t (view_of ds seat).accepted answer) (sym (turn_is ds seat (Discard who tile drawn) e))
        ∙ not-false (is_open rules seat (view_of ds seat).turn (view_of ds seat).accepted answer) c.opens

    by_test : (b : Bool) → cond b (is_pass answer) (is_pass_or_call answer) ≡ true → b ≡ false
    by_test true h = absurd (true≢false (sym h ∙ call))
    by_test false h = refl

both_true : (b : Bool) → (b && true) ≡ false → b ≡ false
both_true true h = cc
both_true false h = refl

triplet_leaves : (rules : Rules) (ds : List Deed) (who tile : ℕ) (drawn : Bool) (seat : ℕ) (answer : Answer) →
    newest ds ≡ Some (Discard who tile drawn) → Clean rules seat (view_of ds seat) answer →
    IfAny (Takes ds who) (call_of_bid (triplet_bid seat answer))
triplet_leaves rules ds who tile drawn seat (answers.Pon actor target (Known t) (Known x) (Known y)) e c =
    ((c.free, both_true (view_of ds seat).accepted c.unlocked), other_seat rules ds who tile drawn seat (answers.Pon actor target (Known t) (Known x) (Known y)) e refl c)
triplet_leaves rules ds who tile drawn seat (answers.OpenKan actor target (Known t) (Known x) (Known y) (Known z)) e c = tt
triplet_leaves rules ds who tile drawn seat (answers.Pon actor target Hidden x y) e c = tt
triplet_leaves rules ds who tile drawn seat (answers.Pon actor target (Known t) Hidden y) e c = tt
triplet_leaves rules ds who tile drawn seat (answers.Pon actor target (Known t) (Known x) Hidden) e c = tt
triplet_leaves rules ds who tile drawn seat (answers.OpenKan actor target Hidden x y z) e c = tt
triplet_leaves rules ds who tile drawn seat (answers.OpenKan actor target (Known t) Hidden y z) e c = tt
triplet_leaves rules ds who tile drawn seat (answers.OpenKan actor target (Known t) (Known x) Hidden z) e c = tt
triplet_leaves rules ds who tile drawn seat (answers.OpenKan actor target (Known t) (Known x) (Known y) Hidden) e c = tt
triplet_leaves rules ds who tile drawn seat (answers.Discard actor t marked) e c = tt
triplet_leaves rules ds who tile drawn seat (answers.ClosedKan actor x y z w) e c = tt
triplet_leaves rules ds who tile drawn seat (answers.AddedKan actor t x y z) e c = tt
triplet_leaves rules ds who tile drawn seat (answers.Pass actor) e c = tt
triplet_leaves rules ds who tile drawn seat (answers.Chi actor target t x y) e c = tt
triplet_leaves rules ds who tile drawn seat (answers.Reach actor) e c = tt
triplet_leaves rules ds who tile drawn seat (answers.Win actor target t) e c = tt
triplet_leaves rules ds who tile drawn seat (answers.NineKinds actor) e c = tt
triplet_leaves rules ds who tile drawn seat answers.Unread e c = tt

run_leaves : (rules : Rules) (ds : List Deed) (who tile : ℕ) (drawn : Bool) (seat : ℕ) (answer : Answer) → newest ds ≡ Some (Discard who tile drawn) →
    Clean rules seat (view_of ds seat) answer → IfAny (Takes ds who) (call_of_bid (run_bid seat answer))
run_leaves rules ds who tile drawn seat (answers.Chi actor target (Known t) (Known x) (Known y)) e c =
    ((c.free, both_true (view_of ds seat).accepted c.unlocked), other_seat rules ds who tile drawn seat (answers.Chi actor target (Known t) (Known x) (Known y)) e refl c)
run_leaves rules ds who tile drawn seat (answers.Chi actor target Hidden x y) e c = tt
run_leaves rules ds who tile drawn seat (answers.Chi actor target (Known t) Hidden y) e c = tt
run_leaves rules ds who tile drawn seat (answers.Chi actor target (Known t) (Known x) Hidden) e c = tt
run_leaves rules ds who tile drawn seat (answers.Discard actor t marked) e c = tt
run_leaves rules ds who tile drawn seat (answers.ClosedKan actor x y z w) e c = tt
run_leaves rules ds who tile drawn seat (answers.AddedKan actor t x y z) e c = tt
run_leaves rules ds who tile drawn seat (answers.Pass actor) e c = tt
run_leaves rules ds who tile drawn seat (answers.Pon actor target t x y) e c = tt
run_leaves rules ds who tile drawn seat (answers.OpenKan actor target t x y z) e c = tt
run_leaves rules ds who tile drawn seat (answers.Reach actor) e c = tt
run_leaves rules ds who tile drawn seat (answers.Win actor target t) e c = tt
run_leaves rules ds who tile drawn seat (answers.NineKinds actor) e c = tt
run_leaves rules ds who tile drawn seat answers.Unread e c = tt

both_calls : (ds : List Deed) (who : ℕ) (bid : Bid) → IfAny (Takes ds who) (call_of_bid bid) → IfAny (Both ds) (call_of_bid bid)
both_calls ds who bids.NoBid h = tt
both_calls ds who (bids.Chi seat target tile a b) h = (h.0, tt)
both_calls ds who (bids.Pon seat target tile a b) h = (h.0, tt)
both_calls ds who (bids.OpenKan seat target tile a b c) h = (tt, tt)

-- A call that was kept.
kept_calls : (ds : List Deed) (bid : Bid) → IfAny (Leaves ds) (call_of_bid bid) → IfAny (Both ds) (call_of_bid bid)
kept_calls ds bids.NoBid h = tt
kept_calls ds (bids.Chi seat target tile a b) h = (h, tt)
kept_calls ds (bids.Pon seat target tile a b) h = (h, tt)
kept_calls ds (bids.OpenKan seat target tile a b c) h = (h, tt)

-- What a seat discards or makes of its own.
discard_leaves : (ds : List Deed) (who : ℕ) (answer : Answer) → is_discard answer ≡ true → IfAny (Both ds) (act_of who answer)
discard_leaves ds who (answers.Discard actor (Known t) drawn) h = (tt, tt)
discard_leaves ds who (answers.Discard actor Hidden drawn) h = tt
discard_leaves ds who other h = cc

act_leaves : (rules : Rules) (ds : List Deed) (n : Deed) (who : ℕ) (answer : Answer) → newest ds ≡ Some n → turn_by n ≡ Drew who →
    Clean rules who (view_of ds who) answer → IfAny (Both ds) (act_of who answer)
act_leaves rules ds n who (answers.Reach actor) e turn c =
    ((not-false (list_any (is_ready_without (view_of ds who)) (concealed (view_of ds who))) c.ready, not-true (view_of ds who).accepted (drew_opens rules ds n who (answers.Reach actor) e turn c)), tt)
act_leaves rules ds n who (answers.Discard actor (Known t) drawn) e turn c = (tt, tt)
act_leaves rules ds n who (answers.Discard actor Hidden drawn) e turn c = tt
act_leaves rules ds n who (answers.ClosedKan actor (Known x) (Known y) (Known z) (Known w)) e turn c = (tt, tt)
act_leaves rules ds n who (answers.ClosedKan actor Hidden y z w) e turn c = tt
act_leaves rules ds n who (answers.ClosedKan actor (Known x) Hidden z w) e turn c = tt
act_leaves rules ds n who (answers.ClosedKan actor (Known x) (Known y) Hidden w) e turn c = tt
act_leaves rules ds n who (answers.ClosedKan actor (Known x) (Known y) (Known z) Hidden) e turn c = tt
act_leaves rules ds n who (answers.AddedKan actor (Known t) (Known x) (Known y) (Known z)) e turn c = (tt, tt)
act_leaves rules ds n who (answers.AddedKan actor Hidden x y z) e turn c = tt
act_leaves rules ds n who (answers.AddedKan actor (Known t) Hidden y z) e turn c = tt
act_leaves rules ds n who (answers.AddedKan actor (Known t) (Known x) Hidden z) e turn c = tt
act_leaves rules ds n who (answers.AddedKan actor (Known t) (Known x) (Known y) Hidden) e turn c = tt
act_leaves rules ds n who (answers.Pass actor) e turn c = tt
act_leaves rules ds n who (answers.Chi actor target t x y) e turn c = tt
act_leaves rules ds n who (answers.Pon actor target t x y) e turn c = tt
act_leaves rules ds n who (answers.OpenKan actor target t x y z) e turn c = tt
act_leaves rules ds n who (answers.Win actor target tile) e turn c = tt
act_leaves rules ds n who (answers.NineKinds actor) e turn c = tt
act_leaves rules ds n who answers.Unread e turn c = tt

drawn_leaves : (ds : List Deed) (why : Reason) → Both ds (drawn_hand ds why)
unfolding draw_shown
drawn_leaves ds why = (tt, tt)

draw_leaves : (ds : List Deed) (wall : List ℕ) (seat : ℕ) → Both ds (next_draw wall ds seat)
draw_leaves ds wall seat = draw_or (Both ds) wall ds seat (drawn_leaves ds reasons.Fanpai) (λ some. (tt, tt))

call_leaves : (rules : Rules) (ds : List Deed) (who tile : ℕ) (drawn : Bool) (given : Four Answer) → newest ds ≡ Some (Discard who tile drawn) →
    AllLawful rules ds given → IfAny (Takes ds who) (call_of_bid (best_bid given))
unfolding best_bid
call_leaves rules ds who tile drawn given e c =
    or_other (Takes ds who) _ _
    (bid_next (Takes ds who) triplet_bid given (λ seat h. triplet_leaves rules ds who tile drawn seat (at_seat given seat) e (clean_at rules ds given seat h c)))
    (bid_next (Takes ds who) run_bid given (λ seat h. run_leaves rules ds who tile drawn seat (at_seat given seat) e (clean_at rules ds given seat h c)))

win_leaves : (ds : List Deed) (wall : List ℕ) (seat target tile : ℕ) (rest : List ℕ) → Both ds (win_deed wall ds seat target tile rest)
unfolding win_shown
win_leaves ds wall seat target tile rest = (tt, tt)

accept_leaves : (ds : List Deed) (seat : ℕ) (bid : Bid) → IfAny (Takes ds seat) (call_of_bid bid) → Both ds (accept ds seat bid)
unfolding accept
accept_leaves ds seat bid h = (tt, kept_leaves ds seat _ bid h)

winner_leaves : (ds : List Deed) (wall : List ℕ) (target tile : ℕ) (rest : List ℕ) → Both ds (next_winner wall ds target tile rest)
winner_leaves ds wall target tile [] = (tt, tt)
winner_leaves ds wall target tile (seat ∷ rest) = win_leaves ds wall seat target tile rest

-- Who reached or called discards.
own_leaves : (walls : List (List ℕ)) (ds : List Deed) (n : Deed) (who : ℕ) (answer : Answer) → is_discard answer ≡ true → IfAny (Both ds) (own_act (wall_now walls ds) ds n who answer)
own_leaves walls ds n who answer h = discards_only (Both ds) (wall_now walls ds) ds n who answer h (discard_leaves ds who answer h)

follower_leaves : (rules : Rules) (walls : List (List ℕ)) (ds : List Deed) (given : Four Answer) (n : Deed) → newest ds ≡ Some n →
    has_seats n ≡ true → IfAny (Leaves ds) (kept_call (Some n)) → AllLawful rules ds given →
    IfAny (Both ds) (follows rules walls ds n (decision_by n given))
unfolding hand_start next_dora next_replacement
follower_leaves rules walls ds given (StartGame names) e seats k c = (tt, tt)
follower_leaves rules walls ds given (StartHand round number honba deposits dealer indicator hands) e seats k c = draw_leaves ds (wall_now walls ds) dealer
follower_leaves rules walls ds given (Draw who tile replacement) e seats k c =
    won_or_acts (Both ds) (wall_now walls ds) ds (Draw who tile replacement) who (at_seat given who) (win_leaves ds (wall_now walls ds) who who tile [])
    (drawn_leaves ds reasons.Kyushukyuhai)
    (act_leaves rules ds (Draw who tile replacement) who (at_seat given who) e refl (clean_at rules ds given who (first_seat who _ seats) c))
follower_leaves rules walls ds given (Discard who tile drawn) e seats k c =
    let takes : IfAny (Takes ds who) (call_of_bid (best_bid given)) = call_leaves rules ds who tile drawn given e c in
    won_or (Both ds) rules walls ds (Discard who tile drawn) (rons_on who given) (call_or_pass (best_bid given)) (rons_seated who given)
    (λ seat rest low others. win_leaves ds (wall_now walls ds) seat who tile rest)
    (called_or_on (Both ds) rules walls ds who tile drawn (best_bid given)
    (behind_or (Both ds) rules (wall_now walls ds) ds who (best_bid given) (λ reached. accept_leaves ds who (best_bid given) takes) (drawn_leaves ds)
    (both_calls ds who (best_bid given) takes) (draw_leaves ds (wall_now walls ds) _)))
follower_leaves rules walls ds given (Chi who target tile a b) e seats k c =
    let clean = clean_at rules ds given who (first_seat who _ seats) c in
    own_leaves walls ds (Chi who target tile a b) who (at_seat given who) (called_opens rules ds (Chi who target tile a b) who _ (at_seat given who) e refl clean)
follower_leaves rules walls ds given (Pon who target tile a b) e seats k c =
    let clean = clean_at rules ds given who (first_seat who _ seats) c in
    own_leaves walls ds (Pon who target tile a b) who (at_seat given who) (called_opens rules ds (Pon who target tile a b) who _ (at_seat given who) e refl clean)
follower_leaves rules walls ds given (OpenKan who target tile a b d) e seats k c = (tt, tt)
follower_leaves rules walls ds given (ClosedKan who a b d x) e seats k c = (tt, tt)
follower_leaves rules walls ds given (AddedKan who tile a b d) e seats k c =
    won_or (Both ds) rules walls ds (AddedKan who tile a b d) (rons_on who given) Pass (rons_seated who given) (λ seat rest low others. win_leaves ds (wall_now walls ds) seat who tile rest) (tt, tt)
follower_leaves rules walls ds given (Dora tile) e seats k c = (tt, tt)
follower_leaves rules walls ds given (Reach who) e seats k c =
    let clean = clean_at rules ds given who (first_seat who _ seats) c in
    own_leaves walls ds (Reach who) who (at_seat given who) (reached_opens rules ds (Reach who) who (at_seat given who) e refl clean)
follower_leaves rules walls ds given (ReachAccepted who points bid) e seats k c =
    unless (Both ds) rules ds (called_or_draw (wall_now walls ds) ds who bid) (drawn_leaves ds)
    (called_or (Both ds) (wall_now walls ds) ds who bid (kept_calls ds bid k) (draw_leaves ds (wall_now walls ds) _))
follower_leaves rules walls ds given (Win who target tile unders own yaku fu han value deltas points rest) e seats k c = winner_leaves ds (wall_now walls ds) target tile rest
follower_leaves rules walls ds given (DrawnHand reason hands ready deltas points) e seats k c = (tt, tt)
follower_leaves rules walls ds given EndHand e seats k c = start_or_end (Both ds) walls ds (standing_after (standing ds) (hand ds)) (λ next after. (tt, tt)) (tt, tt)
follower_leaves rules walls ds given (EndGame points deposits) e seats k c = tt

outcome_leaves : (rules : Rules) (walls : List (List ℕ)) (ds : List Deed) (given : Four Answer) (d : Deed) →
    IfAny (λ n. has_seats n ≡ true) (newest ds) → IfAny (Leaves ds) (kept_call (newest ds)) → AllLawful rules ds given →
    outcome rules walls ds given ≡ Some d → Both ds d
unfolding outcome
outcome_leaves rules walls ds given d seats k c e = subst (IfAny (Both ds)) e (by_newest (newest ds) refl seats k)
  where
    by_newest : (o : Option Deed) → newest ds ≡ o → IfAny (λ n. has_seats n ≡ true) o → IfAny (Leaves ds) (kept_call o) →
        IfAny (Both ds) (option_and_then (λ last. follows rules walls ds last (decision_by last given)) o)
    by_newest None e seats k = tt
    by_newest (Some n) e seats k = follower_leaves rules walls ds given n e seats k c

start_leaves : (d : Deed) → IsTrue (is_game_start d) → Both [] d
start_leaves (StartGame names) h = (tt, tt)
start_leaves (StartHand round number honba deposits dealer indicator hands) h = cc
start_leaves (Draw who tile replacement) h = cc
start_leaves (Discard who tile drawn) h = cc
start_leaves (Chi who target tile a b) h = cc
start_leaves (Pon who target tile a b) h = cc
start_leaves (OpenKan who target tile a b c) h = cc
start_leaves (ClosedKan who a b c d) h = cc
start_leaves (AddedKan who tile a b c) h = cc
start_leaves (Dora tile) h = cc
start_leaves (Reach who) h = cc
start_leaves (ReachAccepted who points bid) h = cc
start_leaves (Win who target tile unders own yaku fu han value deltas points rest) h = cc
start_leaves (DrawnHand reason hands ready deltas points) h = cc
start_leaves EndHand h = cc
start_leaves (EndGame points deposits) h = cc

behind_leaves : (rules : Rules) (walls : List (List ℕ)) (ds : List Deed) (d : Deed) → IfAny (λ n. has_seats n ≡ true) (newest ds) →
    IfAny (Leaves ds) (kept_call (newest ds)) → IsPlayedBehind rules walls ds d → Both ds d
behind_leaves rules walls [] d seats k played = start_leaves d played
behind_leaves rules walls (first ∷ others) d seats k played = outcome_leaves rules walls (first ∷ others) played.given d seats k played.lawful played.gives

-- the tile that is left

-- Where not all of a list pass one test, and what fails it passes another, some passes that.
some_passes : (p q : ℕ → Bool) (xs : List ℕ) → ((x : ℕ) → p x ≡ false → q x ≡ true) → list_all p xs ≡ false → ltb 0 (length (filter q xs)) ≡ true
some_passes p q [] h k = cc
some_passes p q (x ∷ xs) h k = by_tests (p x) (q x) refl refl k (some_passes p q xs h)
  where
    by_tests : (b c : Bool) → p x ≡ b → q x ≡ c → (b && list_all p xs) ≡ false → (list_all p xs ≡ false → ltb 0 (length (filter q xs)) ≡ true) →
        ltb 0 (length (cond c (x ∷ filter q xs) (filter q xs))) ≡ true
    by_tests b true e f k others = lt-ltb 0 (length (x ∷ filter q xs)) (omega arith)
    by_tests true false e f k others = others k
    by_tests false false e f k others = absurd (no (sym f ∙ h x e))
      where
        no : false ≡ true → ⊥
        no e = cc

some_free : (old new : SeatView) (used banned : List ℕ) → ((face : ℕ) → held_count new face ≡ held_count old face - number_in used face) → has_nothing_else old used banned ≡ false →
    nat_lt 0 (length (free_faces new banned)) ≡ true
unfolding has_nothing_else free_faces
some_free old new used banned less h =
    some_passes (λ face. nat_le (held_count old face) (number_in used face) || is_banned banned (kind_of face))
    (λ face. nat_lt 0 (held_count new face) && not (is_banned banned (kind_of face))) tile_order
    (λ face k. each face (or_parts (nat_le (held_count old face) (number_in used face)) (is_banned banned (kind_of face)) k)) h
  where
    more : (n o u : ℕ) → n ≡ o - u → u < o → 0 < n
    more n o u e k = omega arith

    each : (face : ℕ) → (nat_le (held_count old face) (number_in used face) ≡ false) × (is_banned banned (kind_of face) ≡ false) →
        (nat_lt 0 (held_count new face) && not (is_banned banned (kind_of face))) ≡ true
    each face parts =
        and_from (nat_lt 0 (held_count new face)) _ (lt-ltb 0 (held_count new face) (more _ _ _ (less face) (leb-false (held_count old face) (number_in used face) parts.0))) (ap not parts.1)

call_free : (ds : List Deed) (d : Deed) (who seat : ℕ) (used banned : List ℕ) → is_hand_start d ≡ false → gains_by who d ≡ [] →
    losses_by who d ≡ cond (eqb who who) used [] → is_accepted_by who d ≡ false →
    (has_nothing_else (view_of ds who) used banned ≡ false) × ((view_of ds who).accepted ≡ false) → has_free_in seat (view_of (ds ++ d ∷ []) seat) (Called who banned) ≡ true
call_free ds d who seat used banned start g l out h = elim (cases_eq who seat) [
  | inl e ↦ subst (λ s. has_free_in s (view_of (ds ++ d ∷ []) s) (Called who banned) ≡ true) e own
  | inr ne ↦ ap (λ b. not b || (not (view_of (ds ++ d ∷ []) seat).accepted && nat_lt 0 (length (free_faces (view_of (ds ++ d ∷ []) seat) banned)))) (ne_eqb who seat ne)
]
  where
    own : has_free_in who (view_of (ds ++ d ∷ []) who) (Called who banned) ≡ true
    own =
        ap (λ b. not b || (not (view_of (ds ++ d ∷ []) who).accepted && nat_lt 0 (length (free_faces (view_of (ds ++ d ∷ []) who) banned)))) (eq-eqb who who refl)
        ∙ and_from (not (view_of (ds ++ d ∷ []) who).accepted) _ (ap not (still_out ds d who out h.1))
        (some_free (view_of ds who) (view_of (ds ++ d ∷ []) who) used banned (λ face. held_less ds d who face used start g (l ∙ ap (λ b. cond b used []) (eq-eqb who who refl))) h.0)

-- The hand of a seat that neither gets nor puts down tiles is ready without the same ones.
same_more : {A : Type 0} (f : Deed → List A) (ds : List Deed) (d : Deed) → is_hand_start d ≡ false → f d ≡ [] → flat_map f (hand (ds ++ d ∷ [])) ≡ flat_map f (hand ds)
same_more {A = A} f ds d start none =
    hand_with (λ (xs : List Deed). flat_map f xs ≡ flat_map f (hand ds)) ds d (λ _ empty. sym (ap (flat_map f) empty))
    (ap (λ (b : Bool). flat_map f (cond b [] (hand ds) ++ d ∷ [])) start
    ∙ flat_map-append f (hand ds) (d ∷ [])
    ∙ ap (λ (ys : List A). flat_map f (hand ds) ++ (ys ++ [])) none
    ∙ append-nil (flat_map f (hand ds)))

still_ready : (old new : SeatView) → new.tiles_gained ≡ old.tiles_gained → new.tiles_lost ≡ old.tiles_lost → new.melds ≡ old.melds →
    list_any (is_ready_without new) (concealed new) ≡ list_any (is_ready_without old) (concealed old)
unfolding is_ready_without
still_ready old new got gone melds i =
    list_any (λ face. is_ready (kind_counts (less (less (got i) (gone i)) (face ∷ []))) (room_beside (flat_map tiles_of_meld (melds i))) (length (melds i))) (less (got i) (gone i))

-- Of concealed tiles one that passes is held.
some_held : (p : ℕ → Bool) (n : ℕ → ℕ) (xs : List ℕ) → list_any p (flat_map (λ face. replicate (n face) face) xs) ≡ true → nat_lt 0 (length (filter (λ face. nat_lt 0 (n face) && p face) xs)) ≡ true
some_held p n [] h = cc
some_held p n (x ∷ xs) h = by_number (n x) refl (p x) refl (sym (list_any-append p (replicate (n x) x) (flat_map (λ face. replicate (n face) face) xs)) ∙ h) (some_held p n xs)
  where
    kept : (b : Bool) → b ≡ true → nat_lt 0 (length (cond b (x ∷ filter (λ face. nat_lt 0 (n face) && p face) xs) (filter (λ face. nat_lt 0 (n face) && p face) xs))) ≡ true
    kept true e = lt-ltb 0 (length (x ∷ filter (λ face. nat_lt 0 (n face) && p face) xs)) (omega arith)
    kept false e = cc

    other : (b : Bool) → nat_lt 0 (length (filter (λ face. nat_lt 0 (n face) && p face) xs)) ≡ true →
        nat_lt 0 (length (cond b (x ∷ filter (λ face. nat_lt 0 (n face) && p face) xs) (filter (λ face. nat_lt 0 (n face) && p face) xs))) ≡ true
    other true e = lt-ltb 0 (length (x ∷ filter (λ face. nat_lt 0 (n face) && p face) xs)) (omega arith)
    other false e = e

    none : (k : ℕ) → p x ≡ false → list_any p (replicate k x) ≡ false
    none zero e = refl
    none (suc k) e = ap (λ b. b || list_any p (replicate k x)) e ∙ none k e

    by_number : (k : ℕ) → n x ≡ k → (b : Bool) → p x ≡ b → (list_any p (replicate (n x) x) || list_any p (flat_map (λ face. replicate (n face) face) xs)) ≡ true →
        (list_any p (flat_map (λ face. replicate (n face) face) xs) ≡ true → nat_lt 0 (length (filter (λ face. nat_lt 0 (n face) && p face) xs)) ≡ true) →
        nat_lt 0 (length (cond (nat_lt 0 (n x) && p x) (x ∷ filter (λ face. nat_lt 0 (n face) && p face) xs) (filter (λ face. nat_lt 0 (n face) && p face) xs))) ≡ true
    by_number zero e b f h others = other (nat_lt 0 (n x) && p x) (others (ap (λ k. list_any p (replicate k x) || list_any p (flat_map (λ face. replicate (n face) face) xs)) (sym e) ∙ h))
    by_number (suc k) e true f h others = kept (nat_lt 0 (n x) && p x) (and_from (nat_lt 0 (n x)) (p x) (lt-ltb 0 (n x) (omega (arith, e))) f)
    by_number (suc k) e false f h others = other (nat_lt 0 (n x) && p x) (others (ap (λ b. b || list_any p (flat_map (λ face. replicate (n face) face) xs)) (sym (none (n x) f)) ∙ h))

some_ready : (view : SeatView) → list_any (is_ready_without view) (concealed view) ≡ true → nat_lt 0 (length (ready_faces view)) ≡ true
unfolding ready_faces less
some_ready view h = some_held (is_ready_without view) (held_count view) tile_order h

reach_ready : (ds : List Deed) (who : ℕ) → list_any (is_ready_without (view_of ds who)) (concealed (view_of ds who)) ≡ true →
    nat_lt 0 (length (ready_faces (view_of (ds ++ Reach who ∷ []) who))) ≡ true
unfolding view_of
reach_ready ds who h =
    let made : flat_map (makes_by who) (hand (ds ++ Reach who ∷ [])) ≡ flat_map (makes_by who) (hand ds) = same_more (makes_by who) ds (Reach who) refl refl in
    let added : flat_map (adds_by who) (hand (ds ++ Reach who ∷ [])) ≡ flat_map (adds_by who) (hand ds) = same_more (adds_by who) ds (Reach who) refl refl in
    some_ready (view_of (ds ++ Reach who ∷ []) who)
    (still_ready (view_of ds who) (view_of (ds ++ Reach who ∷ []) who) (same_more (gains_by who) ds (Reach who) refl refl) (same_more (losses_by who) ds (Reach who) refl refl)
    (λ i. map (λ (meld : Meld). with_added meld (added i)) (made i)) ∙ h)

reach_free : (ds : List Deed) (who seat : ℕ) → Leaves ds (Reach who) → has_free_in seat (view_of (ds ++ Reach who ∷ []) seat) (Reached who) ≡ true
reach_free ds who seat h = elim (cases_eq who seat) [
  | inl e ↦ subst (λ s. has_free_in s (view_of (ds ++ Reach who ∷ []) s) (Reached who) ≡ true) e own
  | inr ne ↦ ap (λ b. not b || (not (view_of (ds ++ Reach who ∷ []) seat).accepted && nat_lt 0 (length (ready_faces (view_of (ds ++ Reach who ∷ []) seat))))) (ne_eqb who seat ne)
]
  where
    own : has_free_in who (view_of (ds ++ Reach who ∷ []) who) (Reached who) ≡ true
    own =
        ap (λ b. not b || (not (view_of (ds ++ Reach who ∷ []) who).accepted && nat_lt 0 (length (ready_faces (view_of (ds ++ Reach who ∷ []) who))))) (eq-eqb who who refl)
        ∙ and_from (not (view_of (ds ++ Reach who ∷ []) who).accepted) _ (ap not (still_out ds (Reach who) who refl h.1)) (reach_ready ds who h.0)

free_in : (ds : List Deed) (d : Deed) (seat : ℕ) → Leaves ds d → has_free_in seat (view_of (ds ++ d ∷ []) seat) (turn_by d) ≡ true
free_in ds (Chi who target tile a b) seat h = call_free ds (Chi who target tile a b) who seat (a ∷ b ∷ []) (banned_kinds (Chi who target tile a b)) refl refl refl refl h
free_in ds (Pon who target tile a b) seat h = call_free ds (Pon who target tile a b) who seat (a ∷ b ∷ []) (banned_kinds (Pon who target tile a b)) refl refl refl refl h
free_in ds (StartGame names) seat h = refl
free_in ds (StartHand round number honba deposits dealer indicator hands) seat h = refl
free_in ds (Draw who tile replacement) seat h = refl
free_in ds (Discard who tile drawn) seat h = refl
free_in ds (OpenKan who target tile a b c) seat h = refl
free_in ds (ClosedKan who a b c d) seat h = refl
free_in ds (AddedKan who tile a b c) seat h = refl
free_in ds (Dora tile) seat h = refl
free_in ds (Reach who) seat h = reach_free ds who seat h
free_in ds other seat h = refl

turn_more : (ds : List Deed) (d : Deed) (seat : ℕ) → (view_of (ds ++ d ∷ []) seat).turn ≡ turn_by d
unfolding view_of
turn_more ds d seat = ap (λ o. turn_in (option_map turn_by o)) (newest_more ds d)

free_more : (ds : List Deed) (d : Deed) (seat : ℕ) → Leaves ds d → has_free (ds ++ d ∷ []) seat ≡ true
free_more ds d seat h = ap (has_free_in seat (view_of (ds ++ d ∷ []) seat)) (turn_more ds d seat) ∙ free_in ds d seat h

free_of_none : (seat : ℕ) → has_free [] seat ≡ true
unfolding view_of
free_of_none seat = refl

keeps_more : (ds : List Deed) (d : Deed) → Keeps ds d → IfAny (Leaves (ds ++ d ∷ [])) (kept_call (Some d))
keeps_more ds (ReachAccepted who said bid) h = h
keeps_more ds other h = tt

all_free : (rules : Rules) (walls : List (List ℕ)) (before ds : List Deed) (seat : ℕ) →
    ((number : ℕ) → is_wall rules.red (wall_of walls number) ≡ true) → IsPlayed rules walls before → has_free before seat ≡ true →
    IfAny (Leaves before) (kept_call (newest before)) → AllPlayed rules walls before ds → has_free (before ++ ds) seat ≡ true
all_free rules walls before [] seat whole old h k played = subst (λ (xs : List Deed). has_free xs seat ≡ true) (sym (append-nil before)) h
all_free rules walls before (d ∷ ds) seat whole old h k played =
    let both = behind_leaves rules walls before d (played_sound rules walls before whole old).seated k played.0 in
    subst (λ (xs : List Deed). has_free xs seat ≡ true) (append_assoc before (d ∷ []) ds)
    (all_free rules walls (before ++ d ∷ []) ds seat whole (played_more rules walls before d old played.0) (free_more before d seat both.0)
    (subst (λ (o : Option Deed). IfAny (Leaves (before ++ d ∷ [])) (kept_call o)) (sym (newest_more before d)) (keeps_more before d both.1)) played.1)

pub some_tile_is_free : (rules : Rules) (walls : List (List ℕ)) (ds : List Deed) (seat : ℕ) →
    ((number : ℕ) → is_wall rules.red (wall_of walls number) ≡ true) → IsPlayed rules walls ds → has_free ds seat ≡ true
some_tile_is_free rules walls ds seat whole played = all_free rules walls [] ds seat whole tt (free_of_none seat) tt played
