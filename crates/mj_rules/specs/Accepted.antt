-- The law of what a reach that is accepted comes of.
use Rattle.std.specs.Prelude.{◌≡◌, ℕ, Bool, true, List, [], ◌∷◌, ◌++◌, Some, ℤ}
use Rattle.mj_deeds.specs.declared.bid.Bid.{Bid}
use Rattle.mj_deeds.specs.declared.deed.Deed.{Deed}
use Rattle.mj_deeds.specs.declared.deed.Deed.TheVariants.{Discard, Reach, ReachAccepted}
use Rattle.mj_deeds.specs.Course.{cause}
use Rattle.mj_deeds.specs.Facts.{newest, before_newest}
use Rattle.mj_deeds.specs.Hand.{hand}
use Rattle.mj_wall.specs.Places.{is_wall}
use Rattle.mj_wall.specs.declared.setting.Rules.{Rules}
use Rattle.mj_rules.specs.Outcome.{wall_of}
use Rattle.mj_rules.specs.Played.{IsPlayed}

-- The newest deed is a discard of the seat, of this tile and marked so, right after the seat's own reach.
pub record IsDiscardOfReach (deeds : List Deed) (who tile : ℕ) (drawn : Bool) : Type 0 where
  pub discarded : newest deeds ≡ Some (Discard who tile drawn)
  pub reached : before_newest (hand deeds) ≡ Some (Reach who)

-- In played deeds an accepted reach comes of a discard, that of its own seat right after its own reach.
abbrev pub AcceptedOfDiscard : Type 0
AcceptedOfDiscard =
    (rules : Rules) (walls : List (List ℕ)) (deeds : List Deed) (who : ℕ) (points : List ℤ) (bid : Bid) →
    ((number : ℕ) → is_wall rules.red (wall_of walls number) ≡ true) → IsPlayed rules walls (deeds ++ ReachAccepted who points bid ∷ []) →
    (tile : ℕ) × (drawn : Bool) × IsDiscardOfReach deeds who tile drawn ×
    (cause (deeds ++ ReachAccepted who points bid ∷ []) ≡ Some (Discard who tile drawn))
