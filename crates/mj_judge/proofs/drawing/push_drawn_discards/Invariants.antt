use Rattle.std.proofs.Common.{◌≡◌, ◌++◌, take}
use Rattle.std.specs.Prelude.{flat_map}
use Rattle.mj_tiles.specs.Faces.{tile_order}
use Rattle.mj_rules.specs.Possible.{discards_of}
use Rattle.mj_judge.specs.Inner.Tried.{lawful_among}
use Rattle.mj_judge.proofs.drawing.push_drawn_discards.Given as goal

abbrev pub invariant-loop-place : goal.invariant-loop-place
invariant-loop-place l = l.items.items ≡ l.initial.items.items ++ lawful_among l.table.rules l.table.deeds l.seat (flat_map (discards_of l.seat) (take l.place tile_order))
