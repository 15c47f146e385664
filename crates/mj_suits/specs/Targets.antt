-- Targets of one suit: the counts of so many sets, and of a pair where one is wanted, within the room.
use Rattle.std.specs.Prelude.{◌≡◌, ◌≢◌, ℕ, ◌+◌, ◌-◌, ◌<◌, ◌≤◌, Bool, Option, is_some, List, [], ◌∷◌, ◌++◌, length, slice_index, IsTrue}
use Rattle.std.specs.List.{list_all}
use Rattle.std.specs.Ordering.{nat_cmp}
use Rattle.std.specs.Cmp.Lexicographic.{slice_cmp}
use Rattle.std.specs.declared.cmp.Ordering.TheVariants.{Greater}
use Rattle.mj_suits.specs.declared.sets.SuitSet.{SuitSet}
use Rattle.mj_suits.specs.Sets.{tiles_of_sets, tiles_of_pair, counts_of, is_well_formed, is_pair}

-- how many tiles of a target are not held: of each number those that the target has more
abbrev pub missing : List ℕ → List ℕ → ℕ
missing [] held = 0
missing (wanted ∷ target) [] = wanted + missing target []
missing (wanted ∷ target) (have ∷ held) = (wanted - have) + missing target held

-- no number of the suit has more tiles than the bound lets it
abbrev pub IsWithin : List ℕ → (ℕ → ℕ) → Type 0
IsWithin counts bound = (n : ℕ) → n < 9 → slice_index counts n ≤ bound n

-- a target is the counts of just so many well-formed sets, and of a pair just where one is wanted, within the room
pub record IsTarget (room : List ℕ) (runs : Bool) (melds : ℕ) (paired : Bool) (target : List ℕ) : Type 0 where
  pub sets : List SuitSet
  pub pair : Option ℕ
  pub formed : IsTrue (list_all (is_well_formed runs) sets)
  pub many : length sets ≡ melds
  pub has_pair : is_some pair ≡ paired
  pub in_suit : IsTrue (is_pair pair)
  pub made : target ≡ counts_of (tiles_of_sets sets ++ tiles_of_pair pair)
  pub within : IsWithin target (slice_index room)

-- of all lists with the property the target misses the fewest, and of those that miss as few it is the lexicographically greatest
pub record IsNearest (held : List ℕ) (P : List ℕ → Type 0) (number : ℕ) (target : List ℕ) : Type 0 where
  pub is_one : P target
  pub number_is : number ≡ missing target held
  pub least : (other : List ℕ) → P other → number ≤ missing other held
  pub greatest : (other : List ℕ) → P other → missing other held ≡ number → slice_cmp nat_cmp other target ≢ Greater
