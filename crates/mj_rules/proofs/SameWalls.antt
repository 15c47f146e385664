-- Walls that are the same for the hands so far and the next one give the same next deed, and have the same deeds played.
use Rattle.std.proofs.Common.{◌≡◌, ℕ, ◌+◌, ◌-◌, ◌≤◌, Bool, true, false, cond, List, [], ◌∷◌, ◌++◌, length, Option, Some, None, refl, sym, ap, ◌∙◌, subst, arith, append_assoc, option_and_then}
use Rattle.std.proofs.lemmas.List.{length-append}
use Rattle.std.proofs.lemmas.List.Elements.{filter-append}
use Rattle.mj_rounds.specs.declared.rounds.Standing.{Standing}
use Rattle.mj_rounds.specs.declared.rounds.HandEnd.{HandEnd}
use Rattle.mj_rounds.specs.Rounds.{first_standing, next_standing, is_last, round_is_over, dealer_after, honba_after}
use Rattle.mj_deeds.specs.declared.deed.Deed.{Deed}
use Rattle.mj_deeds.specs.declared.deed.Deed.TheVariants.{StartGame, StartHand, Draw, Discard, Chi, Pon, OpenKan, ClosedKan, AddedKan, Dora, Reach, ReachAccepted, Win, DrawnHand, EndHand, EndGame}
use Rattle.mj_deeds.specs.Facts.{newest}
use Rattle.mj_deeds.specs.Hand.{is_hand_start, hand, starts, hand_number}
use Rattle.mj_deeds.specs.Points.{deposits}
use Rattle.mj_deeds.specs.Standings.{standing}
use Rattle.mj_deeds.specs.Ends.{end_of, standing_after}
use Rattle.mj_deeds.specs.declared.four.Four.{Four}
use Rattle.mj_deeds.specs.declared.answer.Answer.{Answer}
use Rattle.mj_deeds.proofs.HandSteps.{standing_hand}
use Rattle.mj_wall.specs.declared.setting.Rules.{Rules}
use Rattle.mj_window.specs.declared.decision.Decision.{Decision}
use Rattle.mj_window.specs.declared.decision.Decision.TheVariants.{Rons, Call, Act, Pass}
use Rattle.mj_window.specs.Decided.{decision_by}
use Rattle.mj_rules.specs.Wins.{win_deed}
use Rattle.mj_rules.specs.Outcome.{AreSame, wall_of, wall_now, hand_start, next_start, behind_discard, own_act, won_tile, seat_of, others_of, after_pass, follows, outcome}
use Rattle.mj_rules.specs.Played.{IsPlayedBehind, AllPlayed, IsPlayed}
use Rattle.mj_rules.proofs.Playing.{played_more, played_less}

-- what follows

-- The hand that follows one has the next number.
next_number : (now next : Standing) (end : HandEnd) → next_standing now end ≡ Some next → next.hand ≡ now.hand + 1
unfolding next_standing
next_number now next end e = by_test (is_last now end) e
  where
    after : Standing
    after = record { round = cond (round_is_over now end) 28 now.round; dealer = dealer_after now.dealer end; honba = honba_after now.honba end; hand = now.hand + 1 }

    some_is : (a b : Standing) → Some a ≡ Some b → b ≡ a
    some_is a b h = cc

    by_test : (b : Bool) → cond b None (Some after) ≡ Some next → next.hand ≡ now.hand + 1
    by_test true h = cc
    by_test false h = ap (λ (s : Standing). s.hand) (some_is after next h)

-- The next hand has the same wall.
next_same : (walls others : List (List ℕ)) (ds : List Deed) (next : Standing) → AreSame walls others (hand_number ds + 1) →
    standing_after (standing ds) (hand ds) ≡ Some next → wall_of walls next.hand ≡ wall_of others next.hand
next_same walls others ds next same e =
    same next.hand (at next.hand (standing ds).hand (hand_number ds) (next_number (standing ds) next (end_of (hand ds) (standing ds).dealer) e) (standing_hand ds))
  where
    at : (a b c : ℕ) → a ≡ b + 1 → b ≡ c → a ≤ c + 1
    at a b c e f = omega (arith, e, f)

start_same : (walls others : List (List ℕ)) (ds : List Deed) (after : Option Standing) → ((next : Standing) → after ≡ Some next →
    wall_of walls next.hand ≡ wall_of others next.hand) → next_start walls ds after ≡ next_start others ds after
start_same walls others ds None same = refl
start_same walls others ds (Some next) same = ap (λ (wall : List ℕ). hand_start wall next (deposits ds)) (same next refl)

-- What follows where nothing was decided, from the same wall of the newest hand.
pass_same : (rules : Rules) (walls others : List (List ℕ)) (wall : List ℕ) (ds : List Deed) (last : Deed) → AreSame walls others (hand_number ds + 1)
    → after_pass rules walls wall ds last ≡ after_pass rules others wall ds last
pass_same rules walls others wall ds (StartGame names) same = ap (λ (w : List ℕ). Some (hand_start w first_standing 0)) (same 0 (omega arith))
pass_same rules walls others wall ds (StartHand round number honba lying dealer indicator hands) same = refl
pass_same rules walls others wall ds (Draw seat tile replacement) same = refl
pass_same rules walls others wall ds (Discard seat tile drawn) same = refl
pass_same rules walls others wall ds (Chi seat target tile a b) same = refl
pass_same rules walls others wall ds (Pon seat target tile a b) same = refl
pass_same rules walls others wall ds (OpenKan seat target tile a b c) same = refl
pass_same rules walls others wall ds (ClosedKan seat a b c d) same = refl
pass_same rules walls others wall ds (AddedKan seat tile a b c) same = refl
pass_same rules walls others wall ds (Dora tile) same = refl
pass_same rules walls others wall ds (Reach seat) same = refl
pass_same rules walls others wall ds (ReachAccepted seat points bid) same = refl
pass_same rules walls others wall ds (Win seat target tile unders own yaku fu han value deltas points rest) same = refl
pass_same rules walls others wall ds (DrawnHand reason hands ready deltas points) same = refl
pass_same rules walls others wall ds EndHand same = ap (λ (d : Deed). Some d) (start_same walls others ds (standing_after (standing ds) (hand ds)) (λ next. next_same walls others ds next same))
pass_same rules walls others wall ds (EndGame points lying) same = refl

-- What a decision gives.
follows_same : (rules : Rules) (walls others : List (List ℕ)) (ds : List Deed) (last : Deed) (decided : Decision) → AreSame walls others (hand_number ds + 1) → wall_now walls ds ≡ wall_now others ds →
    follows rules walls ds last decided ≡ follows rules others ds last decided
follows_same rules walls others ds last (Rons seats) same now = ap (λ (wall : List ℕ). Some (win_deed wall ds seats.first (seat_of last) (won_tile last) (others_of seats))) now
follows_same rules walls others ds last (Call bid) same now = ap (λ (wall : List ℕ). Some (behind_discard rules wall ds (seat_of last) bid)) now
follows_same rules walls others ds last (Act seat answer) same now = ap (λ (wall : List ℕ). own_act wall ds last seat answer) now
follows_same rules walls others ds last Pass same now = ap (λ (wall : List ℕ). after_pass rules walls wall ds last) now ∙ pass_same rules walls others (wall_now others ds) ds last same

-- Four answers give the same deed.
pub outcome_same : (rules : Rules) (walls others : List (List ℕ)) (ds : List Deed) (given : Four Answer) → AreSame walls others (hand_number ds + 1) →
    outcome rules walls ds given ≡ outcome rules others ds given
unfolding outcome
outcome_same rules walls others ds given same = by_newest (newest ds)
  where
    by_newest : (last : Option Deed) → option_and_then (λ n. follows rules walls ds n (decision_by n given)) last ≡ option_and_then (λ n. follows rules others ds n (decision_by n given)) last
    by_newest None = refl
    by_newest (Some last) = follows_same rules walls others ds last (decision_by last given) same (same (hand_number ds) (omega arith))

-- what is played

behind_same : (rules : Rules) (walls others : List (List ℕ)) (before : List Deed) (d : Deed) → AreSame walls others (hand_number before + 1) →
    IsPlayedBehind rules walls before d → IsPlayedBehind rules others before d
behind_same rules walls others [] d same h = h
behind_same rules walls others (first ∷ rest) d same h = record { given = h.given; lawful = h.lawful; gives = sym (outcome_same rules walls others (first ∷ rest) h.given same) ∙ h.gives }

same_before : (walls others : List (List ℕ)) (a b : ℕ) → a ≤ b → AreSame walls others b → AreSame walls others a
same_before walls others a b low same number h = same number (omega (arith, low, h))

-- Deeds before others have no more hands.
hands_before : (xs ys : List Deed) → hand_number xs ≤ hand_number (xs ++ ys)
hands_before xs ys = least (length (starts xs)) (length (starts ys)) (length (starts (xs ++ ys))) (ap length (filter-append is_hand_start xs ys) ∙ length-append (starts xs) (starts ys))
  where
    least : (a b c : ℕ) → c ≡ a + b → a - 1 ≤ c - 1
    least a b c e = omega (arith, e)

all_same : (rules : Rules) (walls others : List (List ℕ)) (before ds : List Deed) → AreSame walls others (hand_number (before ++ ds) + 1) →
    AllPlayed rules walls before ds → AllPlayed rules others before ds
all_same rules walls others before [] same h = h
all_same rules walls others before (d ∷ ds) same h = (
  behind_same rules walls others before d (same_before walls others (hand_number before + 1) (hand_number (before ++ d ∷ ds) + 1) (one_more _ _ (hands_before before (d ∷ ds))) same) h.0,
  all_same rules walls others (before ++ d ∷ []) ds (subst (λ (xs : List Deed). AreSame walls others (hand_number xs + 1)) (sym (append_assoc before (d ∷ []) ds)) same) h.1,
)
  where
    one_more : (a b : ℕ) → a ≤ b → a + 1 ≤ b + 1
    one_more a b h = omega (arith, h)

-- The law: walls that are the same for the hands so far and the next one have the same deeds played.
pub played_same : (rules : Rules) (walls others : List (List ℕ)) (ds : List Deed) → AreSame walls others (hand_number ds + 1) → IsPlayed rules walls ds → IsPlayed rules others ds
played_same rules walls others ds same h = all_same rules walls others [] ds same h

-- And so has one deed more.
pub next_played_same : (rules : Rules) (walls others : List (List ℕ)) (ds : List Deed) (d : Deed) → AreSame walls others (hand_number ds + 1) →
    IsPlayed rules others ds → IsPlayed rules walls (ds ++ d ∷ []) → IsPlayed rules others (ds ++ d ∷ [])
next_played_same rules walls others ds d same before h = played_more rules others ds d before (behind_same rules walls others ds d same (played_less rules walls ds d h).1)

pub turned : (walls others : List (List ℕ)) (hands : ℕ) → AreSame walls others hands → AreSame others walls hands
turned walls others hands same number low = sym (same number low)
