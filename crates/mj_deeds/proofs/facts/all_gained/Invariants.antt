use Rattle.std.proofs.Common.{◌≡◌, take}
use Rattle.mj_deeds.specs.Facts.{tiles_gained}
use Rattle.mj_deeds.proofs.facts.all_gained.Given as goal

abbrev pub invariant-loop-deed : goal.invariant-loop-deed
invariant-loop-deed l = l.tiles.items ≡ tiles_gained (take l.deed-index l.deeds) l.seat
