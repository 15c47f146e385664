use Rattle.std.proofs.Common.{◌≡◌, ◌≤◌, take}
use Rattle.std.specs.Prelude.{flat_map}
use Rattle.mj_tiles.specs.Faces.{number_in}
use Rattle.mj_deeds.specs.Pais.{face_in}
use Rattle.mj_judge.proofs.holding.number_among.Given as goal

abbrev pub invariant-loop-other : goal.invariant-loop-other
invariant-loop-other l = (l.number ≡ number_in (flat_map face_in (take l.other-index l.tiles)) l.tile) × (l.number ≤ l.other-index)
