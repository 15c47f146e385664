-- Hands that are far from complete.
use Rattle.std.specs.Prelude.{ℕ, ◌≤◌, List}
use Rattle.mj_suits.specs.Targets.{missing}
use Rattle.mj_shanten.specs.Room.{IsWithinRoom}
use Rattle.mj_shanten.specs.Shanten.{IsGoal}

-- the tiles of a hand, the room for them, and the number of its melds
pub record FarHand : Type 0 where
  pub counts : List ℕ
  pub room : List ℕ
  pub melds : ℕ

-- each complete hand misses two tiles at least
pub record IsFar (counts room : List ℕ) (melds : ℕ) : Type 0 where
  pub within : IsWithinRoom counts room
  pub far : (target : List ℕ) → IsGoal room melds target → 2 ≤ missing target counts
