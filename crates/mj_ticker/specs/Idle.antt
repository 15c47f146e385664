-- Passes that aren't busy, one at each of several tables.
use Rattle.std.specs.Prelude.{◌≡◌, ℕ, List, Some, slice_get}
use Rattle.turn_lock.specs.Passes.{TurnState, PassState}
use Rattle.turn_lock.specs.Turns.{IsIdle}

module _ {T S N : Type 0} (setting : T → S) (turns : List (TurnState T)) where
  -- Each pass is one of the turn in its place, and not busy.
  abbrev pub AllIdle : List (PassState T S N) → Type 0
  AllIdle passes = (t : ℕ) (turn : TurnState T) (p : PassState T S N) → slice_get turns t ≡ Some turn → slice_get passes t ≡ Some p → IsIdle setting turn p
