-- How many tiles there are of each face.
use Rattle.std.specs.Prelude.{ℕ, List, map}
use Rattle.std.specs.List.{range_with_len}
use Rattle.mj_tiles.specs.Faces.{number_in}

-- For each face of the game how often it stands among tiles.
unfoldable pub face_counts : List ℕ → List ℕ
face_counts tiles = map (number_in tiles) (range_with_len 0 37)
