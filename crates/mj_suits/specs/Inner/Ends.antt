-- The tiles of the numbers from one on.
use Rattle.std.specs.Prelude.{◌≡◌, ℕ, ◌+◌, ◌*◌, ◌≤◌, Bool, false, List, [], ◌∷◌}

-- so many runs, triplets and pairs begin at a number, beside the tiles of runs that began before, and the rest follows
pub record Goes (runs : Bool) (Rest : ℕ → ℕ → ℕ → ℕ → List ℕ → Type 0) (most before earlier sets pairs : ℕ) (tiles : List ℕ) : Type 0 where
  pub begin : ℕ
  pub triplets : ℕ
  pub pairs_here : ℕ
  pub sets_later : ℕ
  pub pairs_later : ℕ
  pub rest : List ℕ
  pub more : Rest begin before sets_later pairs_later rest
  pub only : runs ≡ false → begin ≡ 0
  pub sets_are : sets ≡ begin + triplets + sets_later
  pub pairs_are : pairs ≡ pairs_here + pairs_later
  pub tiles_are : tiles ≡ (before + earlier + (begin + 3 * triplets + 2 * pairs_here)) ∷ rest
  pub within : before + earlier + (begin + 3 * triplets + 2 * pairs_here) ≤ most

-- the tiles of the numbers from one on, where so many runs began one number and two numbers before, and so many sets and pairs begin from here on
abbrev pub Ends : Bool → List ℕ → ℕ → ℕ → ℕ → ℕ → List ℕ → Type 0
Ends runs [] before earlier sets pairs tiles = (before ≡ 0) × ((earlier ≡ 0) × ((sets ≡ 0) × ((pairs ≡ 0) × (tiles ≡ []))))
Ends runs (most ∷ room) before earlier sets pairs tiles = Goes runs (Ends runs room) most before earlier sets pairs tiles
