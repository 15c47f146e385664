-- The lines that are kept for the one seat that a game is told to.
use Rattle.std.specs.Prelude.{◌≡◌, ℕ, ◌≤◌, List, [], ◌∷◌, ◌++◌}
use Rattle.std.proofs.Common.{◌⊎◌}
use Rattle.mj_deeds.specs.declared.deed.Deed.{Deed}
use Rattle.mj_wall.specs.declared.setting.Rules.{Rules}
use Rattle.mj_history.specs.Legal.{Game}
use Rattle.mj_history.specs.SeatLines.{lines_for}
use Rattle.mj_umpire.specs.Calls.{after_of}

-- All deeds but the newest.
pub record LackNewest (rules : Rules) (seat : ℕ) (deeds : List Deed) (lines : List (List ℕ)) : Type 0 where
  pub others : List Deed
  pub newest : Deed
  pub deeds_are : deeds ≡ others ++ newest ∷ []
  pub lines_are : lines ≡ lines_for rules seat others

-- The lines of a seat, 0 to 3, are those of all deeds of a game.
abbrev pub AreWhole : ℕ → Game → List (List ℕ) → Type 0
AreWhole seat game lines = seat ≤ 3 → lines ≡ lines_for game.setting.rules seat (after_of game).deeds

-- They are those of all deeds, or of all but the newest.
abbrev pub AreNear : ℕ → Game → List (List ℕ) → Type 0
AreNear seat game lines = seat ≤ 3 →
    (lines ≡ lines_for game.setting.rules seat (after_of game).deeds) ⊎ LackNewest game.setting.rules seat (after_of game).deeds lines
