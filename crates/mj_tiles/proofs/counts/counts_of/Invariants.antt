use Rattle.std.proofs.Common.{◌≡◌, take}
use Rattle.mj_tiles.specs.Counts.{kind_counts, NoFifth}
use Rattle.mj_tiles.proofs.counts.counts_of.Given as goal

abbrev pub invariant-loop-tile : goal.invariant-loop-tile
invariant-loop-tile l = (l.numbers ≡ kind_counts (take l.tile-index l.tiles)) × NoFifth l.numbers
