-- What the best targets of a suit leave of what is left after it.
use Rattle.std.specs.Prelude.{◌≡◌, ◌≢◌, ◌⊎◌, ℕ, ◌+◌, ◌<◌, ◌≤◌, Bool, if◌then◌else◌, List}
use Rattle.std.specs.Ordering.{nat_cmp}
use Rattle.std.specs.Cmp.Lexicographic.{slice_cmp}
use Rattle.std.specs.declared.cmp.Ordering.TheVariants.{Greater}
use Rattle.mj_suits.specs.Rows.{lane, IsFew}
use Rattle.mj_suits.specs.Targets.{missing, IsTarget}

-- how many pairs there are
abbrev pub pairs : Bool → ℕ
pairs pair = if pair then 1 else 0

-- this target of the suit leaves so many, with so many sets and pairs left to make after it
pub record LeavesBy (counts room : List ℕ) (runs : Bool) (after : List ℕ) (sets pairs_wanted left : ℕ) (target : List ℕ) (sets_after pairs_after : ℕ) : Type 0 where
  pub melds : ℕ
  pub paired : Bool
  pub is_target : IsTarget room runs melds paired target
  pub sets_are : sets ≡ melds + sets_after
  pub pairs_are : pairs_wanted ≡ pairs paired + pairs_after
  pub left_is : lane after sets_after pairs_after ≡ left + missing target counts

-- some target does
pub record Leaves (counts room : List ℕ) (runs : Bool) (after : List ℕ) (sets pairs_wanted left : ℕ) : Type 0 where
  pub target : List ℕ
  pub sets_after : ℕ
  pub pairs_after : ℕ
  pub by : LeavesBy counts room runs after sets pairs_wanted left target sets_after pairs_after

-- no target of the suit leaves more than the row says, and where that is more than none some target leaves it
pub record LeavesMost (counts room : List ℕ) (runs : Bool) (after row : List ℕ) : Type 0 where
  pub most : (sets pairs left : ℕ) → sets < 8 → pairs < 2 → Leaves counts room runs after sets pairs left → left ≤ lane row sets pairs
  pub some : (sets pairs : ℕ) → sets < 8 → pairs < 2 → (lane row sets pairs ≡ 0) ⊎ Leaves counts room runs after sets pairs (lane row sets pairs)
  pub few : IsFew row

-- of the targets that leave the most, and that is more than none, this one is the lexicographically greatest
pub record IsChosen (counts room : List ℕ) (runs : Bool) (after : List ℕ) (sets pairs left : ℕ) (target : List ℕ) (sets_after pairs_after : ℕ) : Type 0 where
  pub is : LeavesBy counts room runs after sets pairs left target sets_after pairs_after
  pub most : (more : ℕ) → Leaves counts room runs after sets pairs more → more ≤ left
  pub greatest : (other : List ℕ) (other_sets other_pairs : ℕ) → LeavesBy counts room runs after sets pairs left other other_sets other_pairs → slice_cmp nat_cmp other target ≢ Greater
