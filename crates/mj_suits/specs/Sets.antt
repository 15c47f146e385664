-- Sets of one suit, their tiles, and the partitions of a suit's counts. A tile of a suit is its number, 0 to 8.
use Rattle.std.specs.Prelude.{◌≡◌, ℕ, ◌+◌, Bool, true, ◌&&◌, ◌||◌, not, ◌==◌, nat_lt, if◌then◌else◌, Option, None, Some, List, [], ◌∷◌, ◌++◌, map, count_by, IsTrue}
use Rattle.std.specs.List.{list_all, flat_map}
use Rattle.mj_suits.specs.declared.sets.SuitSet.{SuitSet}
use Rattle.mj_suits.specs.declared.sets.Split.{Split}

-- a run is three numbers in a row from its lowest on, a triplet one number three times
abbrev pub tiles_of_set : SuitSet → List ℕ
tiles_of_set set = if set.run then set.low ∷ (set.low + 1) ∷ (set.low + 2) ∷ [] else set.low ∷ set.low ∷ set.low ∷ []

-- the tiles of some sets, one set after the other
abbrev pub tiles_of_sets : List SuitSet → List ℕ
tiles_of_sets sets = flat_map tiles_of_set sets

-- a pair is one number twice; no pair has no tiles
abbrev pub tiles_of_pair : Option ℕ → List ℕ
tiles_of_pair None = []
tiles_of_pair (Some number) = number ∷ number ∷ []

-- how many of the tiles have this number
abbrev pub count_of : ℕ → List ℕ → ℕ
count_of number tiles = count_by (λ tile. tile == number) tiles

-- the numbers of a suit
abbrev pub numbers : List ℕ
numbers = 0 ∷ 1 ∷ 2 ∷ 3 ∷ 4 ∷ 5 ∷ 6 ∷ 7 ∷ 8 ∷ []

-- how many of the tiles have each number of the suit
unfoldable pub counts_of : List ℕ → List ℕ
counts_of tiles = map (λ number. count_of number tiles) numbers

-- a suit with runs has them from the numbers 0 to 6 on, and every suit has a triplet of each number
abbrev pub is_well_formed : Bool → SuitSet → Bool
is_well_formed runs set = if set.run then runs && nat_lt set.low 7 else nat_lt set.low 9

-- a set stands before another by its lowest number, and at the same one a run before a triplet
abbrev pub stands_before : SuitSet → SuitSet → Bool
stands_before s t = nat_lt s.low t.low || ((s.low == t.low) && (s.run || not t.run))

-- each set stands before all later ones, where equal sets may stand either way
abbrev pub is_in_order : List SuitSet → Bool
is_in_order [] = true
is_in_order (set ∷ sets) = list_all (stands_before set) sets && is_in_order sets

-- there is no pair, or one of a number of the suit
abbrev pub is_pair : Option ℕ → Bool
is_pair None = true
is_pair (Some number) = nat_lt number 9

-- the split's sets are well formed and in order, its pair is one of the suit, and its tiles are just those counted
pub record IsPartition (counts : List ℕ) (runs : Bool) (split : Split) : Type 0 where
  pub formed : IsTrue (list_all (is_well_formed runs) split.sets)
  pub ordered : IsTrue (is_in_order split.sets)
  pub paired : IsTrue (is_pair split.pair)
  pub counted : counts_of (tiles_of_sets split.sets ++ tiles_of_pair split.pair) ≡ counts
