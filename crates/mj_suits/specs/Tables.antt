-- A suit of which the nearest targets are asked, and its row of lanes.
use Rattle.std.specs.Prelude.{◌≡◌, ℕ, ◌≤◌, ◌<◌, Bool, List, length, slice_index}
use Rattle.mj_suits.specs.Rows.{Holds, IsFew, start_lane}
use Rattle.mj_suits.specs.Left.{LeavesMost}
use Rattle.mj_suits.specs.Targets.{missing}

-- the tiles held, the room for them, and whether the suit has runs
pub record Suit : Type 0 where
  pub counts : List ℕ
  pub room : List ℕ
  pub runs : Bool

-- of fifteen tiles the row has what the targets of the suit leave
pub record IsTable (counts room : List ℕ) (runs : Bool) (start row : List ℕ) : Type 0 where
  pub is_start : Holds start start_lane
  pub few : IsFew start
  pub most : LeavesMost counts room runs start row
  pub of_four : (n : ℕ) → n < length room → slice_index room n ≤ 4
  pub nine : length room ≡ 9

-- the fewest that a list with the property misses
pub record IsLeast (held : List ℕ) (P : List ℕ → Type 0) (number : ℕ) : Type 0 where
  pub some : (target : List ℕ) × (P target × (number ≡ missing target held))
  pub least : (other : List ℕ) → P other → number ≤ missing other held
