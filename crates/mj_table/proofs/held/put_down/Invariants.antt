use Rattle.std.proofs.Common.{◌≡◌, ◌-◌, ℕ, take, get_or}
use Rattle.mj_tiles.specs.Faces.{number_in}
use Rattle.mj_table.proofs.held.put_down.Given as goal

abbrev pub invariant-loop-tile : goal.invariant-loop-tile
invariant-loop-tile l =
    (face : ℕ) → get_or l.held face 0 ≡ get_or l.fn.held face 0 - number_in (take l.tile-index l.tiles) face
