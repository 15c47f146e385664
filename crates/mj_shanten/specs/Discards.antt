-- Which tile to discard.
use Rattle.std.specs.Prelude.{ℕ, ◌≡◌, ◌<◌, ◌≤◌, ◌⊎◌, true, List, slice_index}
use Rattle.mj_tiles.specs.Kinds.{has_kind}
use Rattle.mj_suits.specs.Tables.{IsLeast}
use Rattle.mj_shanten.specs.Shanten.{IsGoal}
use Rattle.mj_shanten.specs.Exchanges.{one_less}

-- A kind of the set, of which a tile is held.
pub record IsDiscard (counts : List ℕ) (kinds kind : ℕ) : Type 0 where
  pub kind_is : kind < 34
  pub among : has_kind kinds kind ≡ true
  pub held : 0 < slice_index counts kind

-- Each other discard leaves more shanten, or as much and does not stand later in tile order: shanten is one less than the fewest
-- tiles that a complete hand misses.
pub record IsBestDiscard (counts room : List ℕ) (melds kinds kind : ℕ) : Type 0 where
  pub is_discard : IsDiscard counts kinds kind
  pub number : ℕ
  pub leaves : IsLeast (one_less counts kind) (IsGoal room melds) number
  pub best : (other others : ℕ) → IsDiscard counts kinds other → IsLeast (one_less counts other) (IsGoal room melds) others
      → (number < others) ⊎ ((number ≡ others) × (other ≤ kind))

-- The nearest complete hand misses at most so many tiles.
pub record MissesAtMost (counts room : List ℕ) (melds most : ℕ) : Type 0 where
  pub number : ℕ
  pub least : IsLeast counts (IsGoal room melds) number
  pub few : number ≤ most

-- It misses more.
pub record MissesMore (counts room : List ℕ) (melds most : ℕ) : Type 0 where
  pub number : ℕ
  pub least : IsLeast counts (IsGoal room melds) number
  pub more : most < number

-- Without a tile of the kind it misses at most so many.
abbrev pub LeavesAtMost : List ℕ → List ℕ → ℕ → ℕ → ℕ → Type 0
LeavesAtMost counts room melds most kind = MissesAtMost (one_less counts kind) room melds most

-- It misses more.
abbrev pub LeavesMore : List ℕ → List ℕ → ℕ → ℕ → ℕ → Type 0
LeavesMore counts room melds most kind = MissesMore (one_less counts kind) room melds most
