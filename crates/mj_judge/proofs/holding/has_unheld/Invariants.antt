use Rattle.std.proofs.Common.{◌≡◌, drop}
use Rattle.std.specs.Prelude.{flat_map, nat_lt, ◌-◌}
use Rattle.std.specs.List.{list_any}
use Rattle.mj_tiles.specs.Faces.{number_in}
use Rattle.mj_deeds.specs.Facts.{tiles_gained, tiles_lost}
use Rattle.mj_deeds.specs.Hand.{hand}
use Rattle.mj_deeds.specs.Pais.{face_in}
use Rattle.mj_judge.proofs.holding.has_unheld.Given as goal

abbrev pub invariant-loop-tile : goal.invariant-loop-tile
invariant-loop-tile l =
    let faces = flat_map face_in l.tiles in
    list_any (λ face. nat_lt (number_in (tiles_gained (hand l.table.deeds) l.seat) face - number_in (tiles_lost (hand l.table.deeds) l.seat) face)
    (number_in faces face)) (flat_map face_in (drop l.tile-index l.tiles))
    ≡ list_any (λ face. nat_lt (number_in (tiles_gained (hand l.table.deeds) l.seat) face - number_in (tiles_lost (hand l.table.deeds) l.seat) face) (number_in faces face)) faces
