use Rattle.std.proofs.Common.{◌≡◌, take}
use Rattle.mj_wall.specs.Inner.FaceCounts.{face_counts}
use Rattle.mj_wall.proofs.wall.counts.Given as goal

abbrev pub invariant-loop-tile : goal.invariant-loop-tile
invariant-loop-tile l = l.counts ≡ face_counts (take l.tile-index l.tiles)
