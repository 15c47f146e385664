use Rattle.std.proofs.Common.{◌≡◌, drop}
use Rattle.std.specs.Prelude.{flat_map}
use Rattle.std.specs.List.{list_all}
use Rattle.mj_tiles.specs.Faces.{tile_order}
use Rattle.mj_deeds.specs.Facts.{tiles_gained, tiles_lost}
use Rattle.mj_deeds.specs.Hand.{hand}
use Rattle.mj_deeds.specs.Pais.{face_in}
use Rattle.mj_judge.specs.Inner.Free.{is_used_up}
use Rattle.mj_judge.proofs.swap.has_nothing_else.Given as goal

abbrev pub invariant-loop-place : goal.invariant-loop-place
invariant-loop-place l =
    list_all (is_used_up (tiles_gained (hand l.table.deeds) l.seat) (tiles_lost (hand l.table.deeds) l.seat) (flat_map face_in l.used) l.bans) (drop l.place tile_order)
    ≡ list_all (is_used_up (tiles_gained (hand l.table.deeds) l.seat) (tiles_lost (hand l.table.deeds) l.seat) (flat_map face_in l.used) l.bans) tile_order
