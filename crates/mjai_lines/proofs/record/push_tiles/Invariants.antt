use Rattle.std.proofs.Common.{flat_map, take, ◌∷◌}
use Rattle.mj_bytes.specs.Adds.{Adds}
use Rattle.mj_tiles.specs.Faces.{text_of}
use Rattle.mjai_lines.proofs.record.push_tiles.Given as goal

abbrev pub invariant-loop-tile : goal.invariant-loop-tile
invariant-loop-tile l = Adds l.initial.text.items l.text.items (flat_map (λ tile. 32 ∷ text_of tile) (take l.tile-index l.tiles))
