-- Where the tiles of a wall are taken from; a wall is a list of 136 faces.
use Rattle.std.specs.Prelude.{ℕ, ◌+◌, ◌-◌, ◌*◌, ◌==◌, ◌&&◌, ◌||◌, Bool, nat_lt, nat_le, min, if◌then◌else◌, List, [], ◌∷◌, ◌++◌, length, Option, Some, None, slice_index, take, drop}
use Rattle.std.specs.List.{list_all}
use Rattle.mj_tiles.specs.Faces.{number_in, tile_order}

-- Tile i of the k-th seat that is dealt to, the dealer being the first.
abbrev pub dealt_tile : List ℕ → ℕ → ℕ → ℕ
dealt_tile wall k i = slice_index wall (13 * k + i)

-- The thirteen tiles of the k-th seat that is dealt to.
abbrev pub dealt_tiles : List ℕ → ℕ → List ℕ
dealt_tiles wall k = take 13 (drop (13 * k) wall)

-- The k-th live draw.
abbrev pub live_tile : List ℕ → ℕ → ℕ
live_tile wall k = slice_index wall (52 + k)

-- The k-th replacement tile.
abbrev pub replacement_tile : List ℕ → ℕ → ℕ
replacement_tile wall k = slice_index wall (135 - k)

-- The k-th indicator.
abbrev pub indicator_tile : List ℕ → ℕ → ℕ
indicator_tile wall k = slice_index wall (131 - 2 * k)

-- The hidden indicator under the k-th.
abbrev pub under_tile : List ℕ → ℕ → ℕ
under_tile wall k = slice_index wall (130 - 2 * k)

-- A face that is a five.
abbrev pub is_five : ℕ → Bool
is_five face = face == 4 || face == 13 || face == 22

-- How often a face stands in a wall: each plain one four times; with red fives each of these once, in the place of a five.
abbrev pub number_in_wall : Bool → ℕ → ℕ
number_in_wall red face =
    if nat_lt face 34 then (if red && is_five face then 3 else 4) else (if red && nat_lt face 37 then 1 else 0)

-- The first place of a tile that is one too many of its face, among those after the tiles before.
abbrev pub first_extra : Bool → List ℕ → List ℕ → Option ℕ
first_extra red before [] = None
first_extra red before (tile ∷ tiles) =
    if nat_le (number_in_wall red tile) (number_in before tile) then Some (length before) else first_extra red (before ++ tile ∷ []) tiles

-- Where the tiles are no wall for want of tiles or for too many: their number where it is below 136, else 136.
abbrev pub wrong_length : ℕ → Option ℕ
wrong_length number = if number == 136 then None else Some (min number 136)

abbrev pub bad_place_by : Option ℕ → ℕ → Option ℕ
bad_place_by (Some place) number = Some place
bad_place_by None number = wrong_length number

-- The first place that is wrong in tiles that are no wall.
unfoldable pub bad_place : Bool → List ℕ → Option ℕ
bad_place red tiles = bad_place_by (first_extra red [] tiles) (length tiles)

-- The tiles are a wall: 136 of them, and each face of the game as often as a wall has it.
unfoldable pub is_wall : Bool → List ℕ → Bool
is_wall red tiles = length tiles == 136 && list_all (λ face. number_in tiles face == number_in_wall red face) tile_order
