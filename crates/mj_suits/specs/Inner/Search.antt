-- Where the search for partitions stands, and what it has found from there on.
use Rattle.std.specs.Prelude.{◌≡◌, ℕ, ◌+◌, ◌*◌, ◌<◌, ◌≤◌, Bool, true, if◌then◌else◌, Option, None, Some, List, [], ◌∷◌, ◌++◌, slice_index}
use Rattle.mj_suits.specs.Each.{AreAll}
use Rattle.mj_suits.specs.Sets.{tiles_of_set, tiles_of_sets, tiles_of_pair, count_of, is_well_formed}
use Rattle.mj_suits.specs.declared.sets.SuitSet.{SuitSet}
use Rattle.mj_suits.specs.declared.sets.Split.{Split}
use Rattle.mj_suits.specs.declared.partitioning.Rest.{Rest}
use Rattle.mj_suits.specs.declared.partitioning.Search.{Search}

-- the place of a set in the order of the search: at each number the run, the triplet, the pair
abbrev pub place : SuitSet → ℕ
place set = 3 * set.low + (if set.run then 0 else 1)

-- the sets are well formed and in order, and none stands before the place
abbrev pub SetsFrom : Bool → ℕ → List SuitSet → Type 0
SetsFrom runs at [] = Unit {0}
SetsFrom runs at (set ∷ sets) = (at ≤ place set) × (is_well_formed runs set ≡ true) × SetsFrom runs (place set) sets

-- where the pair is chosen there is no other; else it may be one at the place or after it
abbrev pub PairFrom : ℕ → Option ℕ → Option ℕ → Type 0
PairFrom at (Some chosen) last = last ≡ None
PairFrom at None None = Unit {0}
PairFrom at None (Some number) = (at ≤ 3 * number + 2) × (number < 9)

-- the pair that is chosen, or else the one that is chosen later
abbrev pub first_pair : Option ℕ → Option ℕ → Option ℕ
first_pair None last = last
first_pair (Some chosen) last = Some chosen

-- the split begins with these sets and this pair, and goes on from the place with what uses up the tiles left
pub record Continues (runs : Bool) (at low : ℕ) (left : List ℕ) (sets : List SuitSet) (pair : Option ℕ) (split : Split) : Type 0 where
  pub more : List SuitSet
  pub last : Option ℕ
  pub formed : SetsFrom runs at more
  pub paired : PairFrom at pair last
  pub used : (n : ℕ) → low ≤ n → n < 9 → count_of n (tiles_of_sets more ++ tiles_of_pair last) ≡ slice_index left n
  pub sets_are : split.sets ≡ sets ++ more
  pub pair_is : split.pair ≡ first_pair pair last

-- what was added to the list is all and only the splits with the property
pub record Finds (P : Split → Type 0) (old new : List Split) : Type 0 where
  pub added : List Split
  pub is : new ≡ old ++ added
  pub are : AreAll P added

-- the search added all and only the splits that go on from the place with the rest
abbrev pub FoundFrom : ℕ → ℕ → Rest → Search → Search → Type 0
FoundFrom at low rest old new = Finds (Continues rest.runs at low rest.left old.sets.items rest.pair) old.found.items new.found.items

-- the suit has such a set, and its tiles are among those left
pub record Fits (left : List ℕ) (set : SuitSet) (runs : Bool) : Type 0 where
  pub formed : is_well_formed runs set ≡ true
  pub within : (n : ℕ) → n < 9 → count_of n (tiles_of_set set) ≤ slice_index left n

-- the suit has such a set, and without its tiles the rest is left
pub record IsLess (left : List ℕ) (set : SuitSet) (runs : Bool) (rest : List ℕ) : Type 0 where
  pub formed : is_well_formed runs set ≡ true
  pub parts : (n : ℕ) → n < 9 → slice_index left n ≡ count_of n (tiles_of_set set) + slice_index rest n
  pub fewer : slice_index rest set.low < slice_index left set.low
