use Rattle.std.proofs.Common.{map, flat_map, take, ◌∷◌}
use Rattle.mj_bytes.specs.Adds.{Adds}
use Rattle.mj_forms.specs.Lines.{tile_seen}
use Rattle.mjai_lines.proofs.pieces.push_after_commas.Given as goal

abbrev pub invariant-loop-tile : goal.invariant-loop-tile
invariant-loop-tile l =
    Adds l.fn.line.items l.line.items (flat_map (λ other. 44 ∷ other) (map (tile_seen l.seen) (take l.tile-index l.tiles)))
