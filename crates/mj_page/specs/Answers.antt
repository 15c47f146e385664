-- What the calls answer.
use Rattle.std.specs.Prelude.{ℕ, ◌≡◌, ◌⊎◌, ◌<◌, ◌^◌, ◌==◌, ◌&&◌, Bool, true, false, List, length}
use Rattle.mj_tiles.specs.Kinds.{has_kind}
use Rattle.mj_waits.specs.Waits.{is_wait}
use Rattle.mj_shanten.specs.Shanten.{IsShanten}
use Rattle.mj_shanten.specs.Discards.{IsDiscard, IsBestDiscard}
use Rattle.mj_page.specs.declared.melds.Meld.{Meld}
use Rattle.mj_page.specs.Hands.{is_hand, left_by, has_tiles}

-- The waits of a hand, bit by bit; all bits where the numbers are none.
abbrev pub AreWaitsBy : Bool → List ℕ → List Meld → ℕ → Type 0
AreWaitsBy true held melds bits = (bits < 2 ^ 34) × ((kind : ℕ) → kind < 34 → has_kind bits kind ≡ is_wait held (left_by melds) (length melds) kind)
AreWaitsBy false held melds bits = bits ≡ 18446744073709551615

abbrev pub AreWaitsOf : List ℕ → List Meld → ℕ → Type 0
AreWaitsOf held melds bits = AreWaitsBy (is_hand held melds) held melds bits

-- The shanten of a hand of thirteen and its target; 255, and the target's places as they were, where it is none.
abbrev pub IsShantenBy : Bool → List ℕ → List Meld → ℕ → List ℕ → List ℕ → Type 0
IsShantenBy true held melds number old new = IsShanten held (left_by melds) (length melds) number new
IsShantenBy false held melds number old new = (number ≡ 255) × (new ≡ old)

abbrev pub IsShantenOf : List ℕ → List Meld → ℕ → List ℕ → List ℕ → Type 0
IsShantenOf held melds number old new = IsShantenBy (has_tiles held melds 13 && (length old == 34)) held melds number old new

-- The best of all discards.
pub record IsBest (held : List ℕ) (melds : List Meld) (kind : ℕ) : Type 0 where
  pub every : ℕ
  pub every_is : (other : ℕ) → other < 34 → has_kind every other ≡ true
  pub best : IsBestDiscard held (left_by melds) (length melds) every kind

-- No tile is concealed.
pub record LacksTiles (held : List ℕ) : Type 0 where
  pub every : ℕ
  pub every_is : (other : ℕ) → other < 34 → has_kind every other ≡ true
  pub none : (other : ℕ) → IsDiscard held every other → ⊥

-- The best discard of a hand of fourteen; 255 where it is none, and where no tile is concealed.
abbrev pub IsBestBy : Bool → List ℕ → List Meld → ℕ → Type 0
IsBestBy true held melds kind = IsBest held melds kind ⊎ ((kind ≡ 255) × LacksTiles held)
IsBestBy false held melds kind = kind ≡ 255

abbrev pub IsBestOf : List ℕ → List Meld → ℕ → Type 0
IsBestOf held melds kind = IsBestBy (has_tiles held melds 14) held melds kind
