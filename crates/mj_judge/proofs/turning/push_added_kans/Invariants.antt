use Rattle.std.proofs.Common.{◌≡◌, ◌++◌, take}
use Rattle.std.specs.Prelude.{flat_map}
use Rattle.mj_tiles.specs.Faces.{tile_order}
use Rattle.mj_rules.specs.View.{view_of}
use Rattle.mj_rules.specs.Possible.{added_kans_of, triplets}
use Rattle.mj_judge.specs.Inner.Tried.{lawful_among}
use Rattle.mj_judge.proofs.turning.push_added_kans.Given as goal

abbrev pub invariant-loop-place : goal.invariant-loop-place
invariant-loop-place l = l.items.items ≡ l.initial.items.items ++ lawful_among l.table.rules l.table.deeds l.seat
    (flat_map (λ face. added_kans_of l.seat face (triplets (view_of l.table.deeds l.seat))) (take l.place tile_order))
