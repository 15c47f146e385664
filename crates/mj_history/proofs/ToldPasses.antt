-- Deeds that tell nothing, since nobody's answer gives them: the start of a hand, what comes after it, after an accepted
-- reach, a kan, an indicator and a win, the end of a hand, and the end of a game.
use Rattle.std.proofs.Common.{◌≡◌, ℕ, true, cond, List, [], ◌∷◌, refl, ap, sym, ◌∙◌, subst}
use Rattle.std.specs.Prelude.{Option, Some, None, ℤ}
use Rattle.std.specs.Option.{option_map_or}
use Rattle.mj_deeds.specs.declared.four.Four.{Four}
use Rattle.mj_deeds.specs.declared.bid.Bid.{Bid}
use Rattle.mj_deeds.specs.declared.bid.Bid.TheVariants as bids
use Rattle.mj_deeds.specs.declared.reason.Reason.{Reason}
use Rattle.mj_deeds.specs.declared.answer.Answer.{Answer}
use Rattle.mj_deeds.specs.declared.answer.Answer.TheVariants as answers
use Rattle.mj_deeds.specs.declared.deed.Deed.{Deed}
use Rattle.mj_deeds.specs.declared.deed.Deed.TheVariants.{StartGame, OpenKan, ClosedKan, AddedKan, Dora, ReachAccepted, EndHand}
use Rattle.mj_deeds.specs.Four.{for_each_seat, next_seat}
use Rattle.mj_deeds.specs.Facts.{newest}
use Rattle.mj_deeds.specs.Hand.{hand}
use Rattle.mj_deeds.specs.Points as deed_facts
use Rattle.mj_deeds.specs.Reasons.{reason}
use Rattle.mj_deeds.specs.Standings.{standing}
use Rattle.mj_deeds.specs.Ends.{standing_after}
use Rattle.mj_window.specs.Decided.{rons_on, rons_or, decision_by}
use Rattle.mj_window.specs.declared.decision.Decision.TheVariants.{Pass}
use Rattle.mj_wall.specs.declared.setting.Rules.{Rules}
use Rattle.mj_rules.specs.View.{Nobodys, turn_by}
use Rattle.mj_rules.specs.Broken.{is_open}
use Rattle.mj_rules.specs.Wins.{win_shown}
use Rattle.mj_rules.specs.Draws.{drawn_hand}
use Rattle.mj_rules.specs.Outcome.{hand_start, next_draw, next_dora, next_replacement, drawn_or, called_or_draw, next_winner, after_pass, wall_now, follows}
use Rattle.mj_rules.specs.Played.{IsLawful}
use Rattle.mj_rules.proofs.Answered.{IfAny}
use Rattle.mj_rules.proofs.Turns.{start_or_end}
use Rattle.mj_history.specs.Told.{wins_told, told_of}
use Rattle.mj_history.proofs.ToldAnswers.{Tells, some_is, pass_is_lawful}
use Rattle.mj_history.proofs.ToldWins.{no_rons, added_offers}
use Rattle.mj_history.proofs.ToldCalls.{IsNobodys, drawn_is_told, reason_is_nobodys, draw_is_told}

-- A deed after this one tells nothing.
abbrev Silent : Deed → Deed → Type 0
Silent n d = (seat : ℕ) → told_of (Some n) d seat ≡ answers.Pass None

silent_if : (n : Deed) (o : Option Deed) (d : Deed) → IfAny (Silent n) o → o ≡ Some d → Silent n d
silent_if n o d h e = subst (IfAny (Silent n)) e h

-- In a window in which nothing is decided the four passes give the deed.
passed : (rules : Rules) (walls : List (List ℕ)) (ds : List Deed) (n : Deed) (given : Four Answer) (d : Deed) → newest ds ≡ Some n → turn_by n ≡ Nobodys →
    ((x : Four Answer) → follows rules walls ds n (decision_by n x) ≡ after_pass rules walls (wall_now walls ds) ds n) → IfAny (Silent n) (after_pass rules walls (wall_now walls ds) ds n) →
    follows rules walls ds n (decision_by n given) ≡ Some d → Tells rules walls ds n d
passed rules walls ds n given d e turn passes silent gives = record {
  lawful = λ seat there.
      subst (IsLawful rules ds seat) (sym (silent_if n (after_pass rules walls (wall_now walls ds) ds n) d silent comes seat))
      (pass_is_lawful rules ds n seat e (λ accepted. ap (λ t. is_open rules seat t accepted (answers.Pass None)) turn));
  gives = passes (for_each_seat (told_of (Some n) d)) ∙ comes;
}
  where
    comes : after_pass rules walls (wall_now walls ds) ds n ≡ Some d
    comes = sym (passes given) ∙ gives

-- starts

pub game_start_tells : (rules : Rules) (walls : List (List ℕ)) (ds : List Deed) (names : Four (List ℕ)) (given : Four Answer) (d : Deed) → newest ds ≡ Some (StartGame names) →
    follows rules walls ds (StartGame names) (decision_by (StartGame names) given) ≡ Some d → Tells rules walls ds (StartGame names) d
unfolding hand_start
game_start_tells rules walls ds names given d e gives = passed rules walls ds (StartGame names) given d e refl (λ x. refl) (λ seat. refl) gives

pub hand_start_tells : (rules : Rules) (walls : List (List ℕ)) (ds : List Deed) (n : Deed) (dealer : ℕ) (given : Four Answer) (d : Deed) → newest ds ≡ Some n → turn_by n ≡ Nobodys →
    ((x : Four Answer) → follows rules walls ds n (decision_by n x) ≡ after_pass rules walls (wall_now walls ds) ds n) →
    after_pass rules walls (wall_now walls ds) ds n ≡ Some (next_draw (wall_now walls ds) ds dealer) →
    follows rules walls ds n (decision_by n given) ≡ Some d → Tells rules walls ds n d
hand_start_tells rules walls ds n dealer given d e turn passes is gives =
    passed rules walls ds n given d e turn passes (subst (IfAny (Silent n)) (sym is) (λ seat. draw_is_told (Some n) (wall_now walls ds) ds dealer seat)) gives

-- kans and indicators

pub open_kan_tells : (rules : Rules) (walls : List (List ℕ)) (ds : List Deed) (who target tile a b c : ℕ) (given : Four Answer) (d : Deed) → newest ds ≡ Some (OpenKan who target tile a b c) →
    follows rules walls ds (OpenKan who target tile a b c) (decision_by (OpenKan who target tile a b c) given) ≡ Some d → Tells rules walls ds (OpenKan who target tile a b c) d
unfolding next_dora
open_kan_tells rules walls ds who target tile a b c given d e gives = passed rules walls ds (OpenKan who target tile a b c) given d e refl (λ x. refl) (λ seat. refl) gives

pub closed_kan_tells : (rules : Rules) (walls : List (List ℕ)) (ds : List Deed) (who a b c x : ℕ) (given : Four Answer) (d : Deed) → newest ds ≡ Some (ClosedKan who a b c x) →
    follows rules walls ds (ClosedKan who a b c x) (decision_by (ClosedKan who a b c x) given) ≡ Some d → Tells rules walls ds (ClosedKan who a b c x) d
unfolding next_dora
closed_kan_tells rules walls ds who a b c x given d e gives = passed rules walls ds (ClosedKan who a b c x) given d e refl (λ y. refl) (λ seat. refl) gives

-- An added kan that is not robbed.
pub added_kan_tells : (rules : Rules) (walls : List (List ℕ)) (ds : List Deed) (who tile a b c : ℕ) (given : Four Answer) (d : Deed) → newest ds ≡ Some (AddedKan who tile a b c) →
    rons_on who given ≡ [] → follows rules walls ds (AddedKan who tile a b c) (decision_by (AddedKan who tile a b c) given) ≡ Some d → Tells rules walls ds (AddedKan who tile a b c) d
unfolding next_dora
added_kan_tells rules walls ds who tile a b c given d e none gives =
    subst (Tells rules walls ds (AddedKan who tile a b c)) (some_is (next_dora (wall_now walls ds) (hand ds)) d (by_rons given none ∙ gives))
    (record {
      lawful = λ seat there. pass_is_lawful rules ds (AddedKan who tile a b c) seat e (λ accepted. (added_offers who tile a b c).passes rules seat accepted);
      gives = sym (by_rons (for_each_seat (λ seat. answers.Pass None)) (no_rons who (λ seat. answers.Pass None) (λ seat. refl)));
    })
  where
    by_rons : (x : Four Answer) → rons_on who x ≡ [] → Some (next_dora (wall_now walls ds) (hand ds)) ≡ follows rules walls ds (AddedKan who tile a b c) (decision_by (AddedKan who tile a b c) x)
    by_rons x h = ap (λ r. follows rules walls ds (AddedKan who tile a b c) (rons_or r Pass)) (sym h)

pub dora_tells : (rules : Rules) (walls : List (List ℕ)) (ds : List Deed) (tile : ℕ) (given : Four Answer) (d : Deed) → newest ds ≡ Some (Dora tile) →
    follows rules walls ds (Dora tile) (decision_by (Dora tile) given) ≡ Some d → Tells rules walls ds (Dora tile) d
unfolding next_replacement
dora_tells rules walls ds tile given d e gives = passed rules walls ds (Dora tile) given d e refl (λ x. refl) (λ seat. refl) gives

-- an accepted reach

-- The drawn hand, the call that was kept, or the draw of the next seat.
kept_is_silent : (rules : Rules) (wall : List ℕ) (ds : List Deed) (who : ℕ) (said : List ℤ) (bid : Bid) → Silent (ReachAccepted who said bid) (drawn_or rules ds (called_or_draw wall ds who bid))
kept_is_silent rules wall ds who said bid = by_reason (reason rules.draws (hand ds)) (reason_is_nobodys rules.draws (hand ds))
  where
    called : (b : Bid) → Silent (ReachAccepted who said bid) (called_or_draw wall ds who b)
    called bids.NoBid seat = draw_is_told (Some (ReachAccepted who said bid)) wall ds (next_seat who) seat
    called (bids.Chi other target tile x y) seat = refl
    called (bids.Pon other target tile x y) seat = refl
    called (bids.OpenKan other target tile x y z) seat = refl

    by_reason : (o : Option Reason) → IfAny IsNobodys o → Silent (ReachAccepted who said bid) (option_map_or (drawn_hand ds) o (called_or_draw wall ds who bid))
    by_reason None h = called bid
    by_reason (Some why) h = λ seat. drawn_is_told (Some (ReachAccepted who said bid)) ds why seat h

pub accepted_tells : (rules : Rules) (walls : List (List ℕ)) (ds : List Deed) (who : ℕ) (said : List ℤ) (bid : Bid) (given : Four Answer) (d : Deed) → newest ds ≡ Some (ReachAccepted who said bid) →
    follows rules walls ds (ReachAccepted who said bid) (decision_by (ReachAccepted who said bid) given) ≡ Some d → Tells rules walls ds (ReachAccepted who said bid) d
accepted_tells rules walls ds who said bid given d e gives =
    passed rules walls ds (ReachAccepted who said bid) given d e refl (λ x. refl) (kept_is_silent rules (wall_now walls ds) ds who said bid) gives

-- ends

-- A later winner, or the end of the hand, after a win.
pub later_win_tells : (rules : Rules) (walls : List (List ℕ)) (ds : List Deed) (n : Deed) (target tile : ℕ) (rest : List ℕ) (given : Four Answer)
    (d : Deed) → newest ds ≡ Some n → deed_facts.is_win n ≡ true → turn_by n ≡ Nobodys →
    ((x : Four Answer) → follows rules walls ds n (decision_by n x) ≡ after_pass rules walls (wall_now walls ds) ds n) →
    after_pass rules walls (wall_now walls ds) ds n ≡ Some (next_winner (wall_now walls ds) ds target tile rest) → follows rules walls ds n (decision_by n given) ≡ Some d → Tells rules walls ds n d
unfolding win_shown
later_win_tells rules walls ds n target tile rest given d e won turn passes is gives =
    passed rules walls ds n given d e turn passes (subst (IfAny (Silent n)) (sym is) (next rest)) gives
  where
    next : (seats : List ℕ) → Silent n (next_winner (wall_now walls ds) ds target tile seats)
    next [] seat = refl
    next (winner ∷ seats) seat = ap (λ b. cond b (answers.Pass None) (wins_told (winner ∷ seats) target seat)) won

pub drawn_hand_tells : (rules : Rules) (walls : List (List ℕ)) (ds : List Deed) (n : Deed) (given : Four Answer) (d : Deed) → newest ds ≡ Some n → turn_by n ≡ Nobodys →
    ((x : Four Answer) → follows rules walls ds n (decision_by n x) ≡ after_pass rules walls (wall_now walls ds) ds n) → after_pass rules walls (wall_now walls ds) ds n ≡ Some EndHand →
    follows rules walls ds n (decision_by n given) ≡ Some d → Tells rules walls ds n d
drawn_hand_tells rules walls ds n given d e turn passes is gives = passed rules walls ds n given d e turn passes (subst (IfAny (Silent n)) (sym is) (λ seat. refl)) gives

-- The next hand, or the end of the game.
pub hand_end_tells : (rules : Rules) (walls : List (List ℕ)) (ds : List Deed) (given : Four Answer) (d : Deed) → newest ds ≡ Some EndHand →
    follows rules walls ds EndHand (decision_by EndHand given) ≡ Some d → Tells rules walls ds EndHand d
unfolding hand_start
hand_end_tells rules walls ds given d e gives =
    passed rules walls ds EndHand given d e refl (λ x. refl) (start_or_end (Silent EndHand) walls ds (standing_after (standing ds) (hand ds)) (λ next after seat. refl) (λ seat. refl)) gives
