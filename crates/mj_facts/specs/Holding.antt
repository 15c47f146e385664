-- How many tiles of each face a seat holds.
use Rattle.std.specs.Prelude.{◌≡◌, ◌<◌, ◌+◌, List, slice_index, ℕ}
use Rattle.mj_tiles.specs.Faces.{number_in}
use Rattle.mj_deeds.specs.declared.deed.Deed.{Deed}
use Rattle.mj_deeds.specs.Facts.{tiles_gained, tiles_lost}

-- A seat holds so many tiles of each face in one hand: those that it holds and those that it put down are those given to it.
abbrev pub Holds : List Deed → ℕ → List ℕ → Type 0
Holds deeds seat held = (face : ℕ) → face < 37 → slice_index held face + number_in (tiles_lost deeds seat) face ≡ number_in (tiles_gained deeds seat) face
