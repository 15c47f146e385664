use Rattle.std.proofs.Common.{◌≡◌, take}
use Rattle.mj_deeds.specs.Facts.{river_tiles}
use Rattle.mj_deeds.proofs.facts.river.Given as goal

abbrev pub invariant-loop-deed : goal.invariant-loop-deed
invariant-loop-deed l = l.tiles ≡ river_tiles (take l.deed-index l.deeds) l.seat
