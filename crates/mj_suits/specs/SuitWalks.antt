-- A suit that is walked, with the rows of each number.
use Rattle.std.specs.Prelude.{◌≡◌, ℕ, List, length}
use Rattle.mj_suits.specs.Rows.{IsFew}
use Rattle.mj_suits.specs.Left.{LeavesMost}
use Rattle.mj_suits.specs.Tables.{Suit}
use Rattle.mj_suits.specs.Inner.Choosing.{helds, rooms, AreLevels}
use Rattle.mj_suits.specs.declared.choosing.Aim.{Aim}
use Rattle.mj_suits.specs.declared.choosing.Level.{Level}

-- the suit, what is left after it, and its row
pub record Walk : Type 0 where
  pub suit : Suit
  pub after : List ℕ
  pub row : List ℕ

-- the nine numbers have the rows of the walk, and the row has what the targets of the suit leave
pub record IsWalk (aim : Aim) (levels : List Level) (row : List ℕ) : Type 0 where
  pub nine : length levels ≡ 9
  pub few : IsFew aim.after.lanes
  pub are : AreLevels aim levels
  pub most : LeavesMost (helds levels) (rooms levels) aim.runs aim.after.lanes row
