use Rattle.std.proofs.Common.{◌≡◌, ◌≤◌, ◌+◌, ℕ, length, take, get_or}
use Rattle.mj_tiles.specs.Faces.{number_in}
use Rattle.mj_table.proofs.held.take_up.Given as goal

abbrev pub invariant-loop-tile : goal.invariant-loop-tile
invariant-loop-tile l =
    (length l.held ≡ 37)
    × ((face : ℕ) → get_or l.fn.held face 0 + number_in (take l.tile-index l.tiles) face ≤ 255 → get_or l.held face 0 ≡ get_or l.fn.held face 0 + number_in (take l.tile-index l.tiles) face)
