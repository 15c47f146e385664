use Rattle.std.proofs.Common.{List, ℕ, sym, subst, take}
use Rattle.std.specs.Prelude.{flat_map}
use Rattle.mj_tiles.specs.Counts.{NoFifth}
use Rattle.mj_tiles.specs.Melds.{tiles_of_meld}
use Rattle.mj_table.proofs.RoomSteps.{room_none, room_within}
use Rattle.mj_table.proofs.room.room_beside.Goals as goal

pub loop-meld-init : goal.loop-meld-init
loop-meld-init c = room_none

pub from_numbers-requires : goal.from_numbers-requires
from_numbers-requires c =
    subst (λ (xs : List ℕ). NoFifth xs) (sym c.loop-meld.invariant) (room_within (flat_map tiles_of_meld (take c.loop-meld.meld-index c.args.melds.now)))
