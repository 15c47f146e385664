-- Counts of tiles by kind.
use Rattle.std.specs.Prelude.{ℕ, ◌≡◌, ◌≤◌, ◌-◌, ◌==◌, Bool, nat_le, List, length, slice_index, count_by, map}
use Rattle.std.specs.List.{list_all, range_with_len}
use Rattle.mj_tiles.specs.Faces.{kind_of}

-- The 34 kinds.
unfoldable pub all_kinds : List ℕ
all_kinds = range_with_len 0 34

-- How often a kind stands among tiles, a red five as a five of its suit.
abbrev pub number_of : List ℕ → ℕ → ℕ
number_of tiles kind = count_by (λ tile. kind_of tile == kind) tiles

-- For each kind how often it stands among tiles.
unfoldable pub kind_counts : List ℕ → List ℕ
kind_counts tiles = map (number_of tiles) all_kinds

-- The room that tiles leave for others: four of each kind less these.
unfoldable pub room_beside : List ℕ → List ℕ
room_beside tiles = map (λ kind. 4 - number_of tiles kind) all_kinds

-- Among tiles no kind stands more than four times.
unfoldable pub has_no_fifth : List ℕ → Bool
has_no_fifth tiles = list_all (λ kind. nat_le (number_of tiles kind) 4) all_kinds

-- No kind stands more than four times.
abbrev pub NoFifth : List ℕ → Type 0
NoFifth numbers = (kind : ℕ) → slice_index numbers kind ≤ 4

-- A number for each of the 34 kinds, none above four.
pub record IsCounts (numbers : List ℕ) : Type 0 where
  pub size : length numbers ≡ 34
  pub within : NoFifth numbers
