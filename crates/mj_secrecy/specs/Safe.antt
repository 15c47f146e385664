-- Safe tiles are safe in whichever game agrees.
use Rattle.std.specs.Prelude.{◌≡◌, ℕ, ◌<◌, Bool, true, [], ◌∷◌, ◌++◌, Some}
use Rattle.mj_tiles.specs.Faces.{kind_of}
use Rattle.mj_deeds.specs.declared.answer.Answer.{Answer}
use Rattle.mj_deeds.specs.declared.deed.Deed.TheVariants.{Discard}
use Rattle.mj_rules.specs.Broken.{is_win}
use Rattle.mj_rules.specs.Played.{IsLawful}
use Rattle.mj_safety.specs.declared.reason.Reason.{Reason}
use Rattle.mj_safety.specs.Safe.{has_to_discard, safe_reason}
use Rattle.mj_history.specs.After.{after}
use Rattle.mj_history.specs.Legal.{IsLegal, Game}
use Rattle.mj_secrecy.specs.Trace.{Agree}

-- A seat that has to discard has a reason why a kind is safe against another, in one of two games that agree for it; and in a
-- legal game that goes on from the other one it discards a tile of that kind.
pub record GoesOnSafely (seat against : ℕ) (reason : Reason) (g h later : Game) (tile : ℕ) (drawn : Bool) : Type 0 where
  pub agree : Agree seat g h
  pub turn : has_to_discard (after g.setting g.entries).deeds seat ≡ true
  pub why : safe_reason (after g.setting g.entries).deeds seat against (kind_of tile) ≡ Some reason
  pub legal : IsLegal later.setting later.entries
  pub goes_on : (after later.setting later.entries).deeds ≡ (after h.setting h.entries).deeds ++ Discard seat tile drawn ∷ []

-- Then no win of that other seat is lawful in the window on the discard.
abbrev pub SafeInEveryGame : Type 0
SafeInEveryGame =
    (seat against : ℕ) (reason : Reason) (g h later : Game) (tile : ℕ) (drawn : Bool) (answer : Answer) → seat < 4 → against < 4 →
    GoesOnSafely seat against reason g h later tile drawn → is_win answer ≡ true →
    IsLawful later.setting.rules (after later.setting later.entries).deeds against answer → ⊥
