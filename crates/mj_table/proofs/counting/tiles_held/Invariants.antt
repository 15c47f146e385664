use Rattle.std.proofs.Common.{◌≡◌, take, get_or}
use Rattle.mj_tiles.specs.Faces.{tile_order}
use Rattle.mj_table.proofs.HeldKinds.{copies_of}
use Rattle.mj_table.proofs.counting.tiles_held.Given as goal

abbrev pub invariant-loop-place : goal.invariant-loop-place
invariant-loop-place l = l.tiles ≡ copies_of (λ face. get_or l.held face 0) (take l.place tile_order)
