-- A reach is accepted right after its discard.
use Rattle.std.proofs.Common.{◌≡◌, ℕ, ◌-◌, Bool, true, false, List, [], ◌∷◌, ◌++◌, length, take, sym, ap, ◌∙◌, subst}
use Rattle.std.specs.Prelude.{Some, ℤ, option_and_then}
use Rattle.std.specs.Option.{option_map_or}
use Rattle.mj_deeds.specs.declared.bid.Bid.{Bid}
use Rattle.mj_deeds.specs.declared.deed.Deed.{Deed}
use Rattle.mj_deeds.specs.declared.deed.Deed.TheVariants.{Discard, Reach, ReachAccepted}
use Rattle.mj_deeds.specs.Course.{is_reach, comes_of, cause}
use Rattle.mj_deeds.specs.Facts.{newest, before_newest}
use Rattle.mj_deeds.specs.Fits.{ground_of, all_fit}
use Rattle.mj_deeds.specs.Hand.{hand}
use Rattle.mj_deeds.proofs.HandSteps.{hand_is}
use Rattle.mj_deeds.proofs.Fitted.{hand_begun}
use Rattle.mj_deeds.proofs.Newest.{newest_more, before_more}
use Rattle.mj_wall.specs.Places.{is_wall}
use Rattle.mj_wall.specs.declared.setting.Rules.{Rules}
use Rattle.mj_rules.specs.Outcome.{wall_of}
use Rattle.mj_rules.specs.Played.{IsPlayed}
use Rattle.mj_rules.specs.Accepted.{AcceptedOfDiscard}
use Rattle.mj_rules.proofs.Stages.{newest_behind}
use Rattle.mj_rules.proofs.Kept.{IsNext}
use Rattle.mj_rules.proofs.Promises.{Discarded, newest_in, before_newest_is, same_seat}
use Rattle.mj_rules.proofs.Playing.{played_sound, played_less, behind_adds}

-- A discard that comes in its turn right after a reach is one of the seat that reached.
own_reach : (red : Bool) (walls : List (List ℕ)) (ds : List Deed) (who tile : ℕ) (drawn : Bool) → all_fit red [] ds ≡ true → IsNext red walls ds (Discard who tile drawn) →
    option_map_or is_reach (before_newest (hand (ds ++ Discard who tile drawn ∷ []))) false ≡ true → before_newest (hand (ds ++ Discard who tile drawn ∷ [])) ≡ Some (Reach who)
unfolding ground_of
own_reach red walls ds who tile drawn fit next h = is_newest ∙ same_seat ds who next.stage (ap (λ o. option_map_or is_reach o false) (sym is_newest) ∙ h)
  where
    some : hand ds ≡ [] → ⊥
    some empty = hand_begun red ds fit next.place empty

    is_newest : before_newest (hand (ds ++ Discard who tile drawn ∷ [])) ≡ newest ds
    is_newest = before_newest_is ds (Discard who tile drawn) (hand_is ds (Discard who tile drawn) (λ _ empty. some empty)) (newest_in ds next.place some)

-- So it is in played deeds.
own_in_played : (rules : Rules) (walls : List (List ℕ)) (ds : List Deed) (who tile : ℕ) (drawn : Bool) → ((number : ℕ) → is_wall rules.red (wall_of walls number) ≡ true) →
    IsPlayed rules walls (ds ++ Discard who tile drawn ∷ []) →
    option_map_or is_reach (before_newest (hand (ds ++ Discard who tile drawn ∷ []))) false ≡ true → before_newest (hand (ds ++ Discard who tile drawn ∷ [])) ≡ Some (Reach who)
own_in_played rules walls ds who tile drawn whole played h =
    let parts = played_less rules walls ds (Discard who tile drawn) played in
    let sound = played_sound rules walls ds whole parts.0 in
    own_reach rules.red walls ds who tile drawn sound.fit (behind_adds rules walls ds (Discard who tile drawn) sound parts.1).next h

own_before : (rules : Rules) (walls : List (List ℕ)) (ds : List Deed) (who tile : ℕ) (drawn : Bool) → ((number : ℕ) → is_wall rules.red (wall_of walls number) ≡ true) → IsPlayed rules walls ds →
    newest ds ≡ Some (Discard who tile drawn) → option_map_or is_reach (before_newest (hand ds)) false ≡ true → before_newest (hand ds) ≡ Some (Reach who)
own_before rules walls ds who tile drawn whole played e =
    subst (λ (xs : List Deed). IsPlayed rules walls xs → option_map_or is_reach (before_newest (hand xs)) false ≡ true →
    before_newest (hand xs) ≡ Some (Reach who)) (sym (newest_behind ds (Discard who tile drawn) e))
    (own_in_played rules walls (take (length ds - 1) ds) who tile drawn whole) played

-- What an accepted reach comes of is the newest deed before it.
cause_is : (ds : List Deed) (who : ℕ) (points : List ℤ) (bid : Bid) → cause (ds ++ ReachAccepted who points bid ∷ []) ≡ newest ds
cause_is ds who points bid =
    ap (λ (xs : List Deed). option_and_then (comes_of xs) (newest (ds ++ ReachAccepted who points bid ∷ []))) (before_more ds (ReachAccepted who points bid))
    ∙ ap (option_and_then (comes_of ds)) (newest_more ds (ReachAccepted who points bid))

pub accepted_of_discard : AcceptedOfDiscard
accepted_of_discard rules walls ds who points bid whole played =
    let parts = played_less rules walls ds (ReachAccepted who points bid) played in
    let owed : Discarded ds who = (behind_adds rules walls ds (ReachAccepted who points bid) (played_sound rules walls ds whole parts.0) parts.1).promise.2 in
    (owed.0, owed.1, record { discarded = owed.2; reached = own_before rules walls ds who owed.0 owed.1 whole parts.0 owed.2 owed.3 }, cause_is ds who points bid ∙ owed.2)
