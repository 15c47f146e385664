-- The laws of safe tiles.
use Rattle.std.specs.Prelude.{◌≡◌, ℕ, ◌<◌, Bool, true, false, List, [], ◌∷◌, ◌++◌, Some, None}
use Rattle.mj_tiles.specs.Faces.{kind_of}
use Rattle.mj_deeds.specs.declared.answer.Answer.{Answer}
use Rattle.mj_deeds.specs.declared.deed.Deed.{Deed}
use Rattle.mj_deeds.specs.declared.deed.Deed.TheVariants.{Discard}
use Rattle.mj_wall.specs.declared.setting.Rules.{Rules}
use Rattle.mj_wall.specs.Places.{is_wall}
use Rattle.mj_rules.specs.Broken.{is_win}
use Rattle.mj_rules.specs.Outcome.{wall_of}
use Rattle.mj_rules.specs.Played.{IsLawful, IsPlayed}
use Rattle.mj_safety.specs.declared.reason.Reason.{Reason}
use Rattle.mj_safety.specs.declared.reason.Reason.TheVariants.{OwnDiscard, PassedInRiichi, Passed, Blocked}
use Rattle.mj_safety.specs.Safe.{has_to_discard, reason_holds, safe_reason}

-- The reason that is given is the first that holds; where none holds none is given, and so only there.
pub record GivesFirst (deeds : List Deed) (seat against kind : ℕ) : Type 0 where
  -- a kind that the other seat discarded itself
  pub own : reason_holds deeds seat against kind OwnDiscard ≡ true → safe_reason deeds seat against kind ≡ Some OwnDiscard
  -- else one that it let pass since its reach
  pub since :
      reason_holds deeds seat against kind OwnDiscard ≡ false → reason_holds deeds seat against kind PassedInRiichi ≡ true →
      safe_reason deeds seat against kind ≡ Some PassedInRiichi
  -- else one that it let pass since its last discard
  pub passed :
      reason_holds deeds seat against kind OwnDiscard ≡ false → reason_holds deeds seat against kind PassedInRiichi ≡ false →
      reason_holds deeds seat against kind Passed ≡ true → safe_reason deeds seat against kind ≡ Some Passed
  -- else one that is blocked
  pub blocked :
      reason_holds deeds seat against kind OwnDiscard ≡ false → reason_holds deeds seat against kind PassedInRiichi ≡ false →
      reason_holds deeds seat against kind Passed ≡ false → reason_holds deeds seat against kind Blocked ≡ true →
      safe_reason deeds seat against kind ≡ Some Blocked
  pub none : ((reason : Reason) → reason_holds deeds seat against kind reason ≡ false) → safe_reason deeds seat against kind ≡ None
  pub holds :
      (reason : Reason) → safe_reason deeds seat against kind ≡ Some reason → reason_holds deeds seat against kind reason ≡ true

abbrev pub FirstReasonIsGiven : Type 0
FirstReasonIsGiven = (deeds : List Deed) (seat against kind : ℕ) → GivesFirst deeds seat against kind

-- In played deeds, where a seat that has to discard had a reason why a kind is safe against another and then discarded a tile of
-- it, no win of that other seat is lawful in the window on the discard.
abbrev pub SafeTilesAreSafe : Type 0
SafeTilesAreSafe =
    (rules : Rules) (walls : List (List ℕ)) (deeds : List Deed) (seat against tile : ℕ) (drawn : Bool) (reason : Reason)
    (answer : Answer) →
    against < 4 → ((number : ℕ) → is_wall rules.red (wall_of walls number) ≡ true) →
    IsPlayed rules walls (deeds ++ Discard seat tile drawn ∷ []) →
    has_to_discard deeds seat ≡ true → safe_reason deeds seat against (kind_of tile) ≡ Some reason →
    is_win answer ≡ true → IsLawful rules (deeds ++ Discard seat tile drawn ∷ []) against answer → ⊥
