use Rattle.std.proofs.Common.{◌≡◌, ◌++◌, take}
use Rattle.std.specs.Prelude.{flat_map}
use Rattle.mj_tiles.specs.Faces.{tile_order, kind_of}
use Rattle.mj_rules.specs.Possible.{faces_of, closed_kans_of}
use Rattle.mj_judge.specs.Inner.Tried.{lawful_among}
use Rattle.mj_judge.proofs.turning.push_closed_kans.Given as goal

abbrev pub invariant-loop-place : goal.invariant-loop-place
invariant-loop-place l = l.items.items ≡ l.initial.items.items ++ lawful_among l.table.rules l.table.deeds l.seat
    (flat_map (λ a. closed_kans_of l.seat a (faces_of (kind_of a))) (take l.place tile_order))
