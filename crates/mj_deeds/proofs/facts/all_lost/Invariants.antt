use Rattle.std.proofs.Common.{◌≡◌, take}
use Rattle.mj_deeds.specs.Facts.{tiles_lost}
use Rattle.mj_deeds.proofs.facts.all_lost.Given as goal

abbrev pub invariant-loop-deed : goal.invariant-loop-deed
invariant-loop-deed l = l.tiles.items ≡ tiles_lost (take l.deed-index l.deeds) l.seat
