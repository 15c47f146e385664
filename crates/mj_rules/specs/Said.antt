-- The laws of what deeds say beside what they do.
use Rattle.std.specs.Prelude.{◌≡◌, ℕ, ◌<◌, List, [], ◌∷◌, ◌++◌, true, ℤ, pos}
use Rattle.std.specs.List.{slice_index_or}
use Rattle.mj_deeds.specs.declared.deed.Deed.{Deed}
use Rattle.mj_deeds.specs.declared.deed.Deed.TheVariants.{ReachAccepted, Win, DrawnHand, EndGame}
use Rattle.mj_deeds.specs.Points.{points_of}
use Rattle.mj_wall.specs.Places.{is_wall}
use Rattle.mj_wall.specs.declared.setting.Rules.{Rules}
use Rattle.mj_rules.specs.Outcome.{wall_of}
use Rattle.mj_rules.specs.Played.{IsPlayed}

-- The points that a deed says, where it says any.
abbrev pub points_said : Deed → List (List ℤ)
points_said (ReachAccepted who points bid) = points ∷ []
points_said (Win who target tile unders hand yaku fu han value deltas points rest) = points ∷ []
points_said (DrawnHand reason hands ready deltas points) = points ∷ []
points_said (EndGame points deposits) = points ∷ []
points_said other = []

-- In played deeds the points that a deed says of a seat are those that are read off the deeds with it.
abbrev pub PointsAreRead : Type 0
PointsAreRead =
    (rules : Rules) (walls : List (List ℕ)) (deeds : List Deed) (deed : Deed) (said : List ℤ) (seat : ℕ) → ((number : ℕ) → is_wall rules.red (wall_of walls number) ≡ true) →
    IsPlayed rules walls (deeds ++ deed ∷ []) → points_said deed ≡ said ∷ [] → seat < 4 → slice_index_or said seat (pos 0) ≡ points_of (deeds ++ deed ∷ []) seat
