-- Shanten, and the nearest complete hand.
use Rattle.std.specs.Prelude.{ℕ, ◌≡◌, ◌≢◌, ◌+◌, ◌≤◌, List, flat_map, replicate, slice_index}
use Rattle.std.specs.Ordering.{nat_cmp}
use Rattle.std.specs.Cmp.Lexicographic.{slice_cmp}
use Rattle.std.specs.declared.cmp.Ordering.TheVariants.{Greater}
use Rattle.mj_tiles.specs.Counts.{all_kinds, IsCounts}
use Rattle.mj_suits.specs.Targets.{missing}
use Rattle.mj_readings.specs.Complete.{IsComplete}
use Rattle.mj_shanten.specs.Room.{IsWithinRoom}

-- The kinds of a hand's tiles from the lowest on, each as often as it stands.
unfoldable pub sorted_kinds : List ℕ → List ℕ
sorted_kinds counts = flat_map (λ kind. replicate (slice_index counts kind) kind) all_kinds

-- A complete hand with the same melds that keeps the room.
pub record IsGoal (room : List ℕ) (melds : ℕ) (target : List ℕ) : Type 0 where
  pub are_counts : IsCounts target
  pub complete : IsComplete target melds
  pub within : IsWithinRoom target room

-- The distance of a complete hand is the number of its tiles that are not held. Shanten is one less than the least
-- distance of a complete hand with the same melds that keeps the room, and the target is the nearest one, of several
-- the one whose sorted list of kinds is lexicographically least.
pub record IsShanten (counts room : List ℕ) (melds number : ℕ) (target : List ℕ) : Type 0 where
  pub is_goal : IsGoal room melds target
  pub number_is : missing target counts ≡ number + 1
  pub least : (other : List ℕ) → IsGoal room melds other → number + 1 ≤ missing other counts
  pub first : (other : List ℕ) → IsGoal room melds other → missing other counts ≡ number + 1 → slice_cmp nat_cmp (sorted_kinds target) (sorted_kinds other) ≢ Greater
