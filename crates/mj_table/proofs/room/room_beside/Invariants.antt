use Rattle.std.proofs.Common.{◌≡◌, take}
use Rattle.std.specs.Prelude.{flat_map}
use Rattle.mj_tiles.specs.Counts.{room_beside}
use Rattle.mj_tiles.specs.Melds.{tiles_of_meld}
use Rattle.mj_table.proofs.room.room_beside.Given as goal

abbrev pub invariant-loop-meld : goal.invariant-loop-meld
invariant-loop-meld l = l.room ≡ room_beside (flat_map tiles_of_meld (take l.meld-index l.melds))
