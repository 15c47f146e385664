use Rattle.std.proofs.Common.{◌≡◌, ◌++◌, map, take}
use Rattle.mj_readings.specs.Sets.{set_of_meld}
use Rattle.mj_readings.proofs.listing.as_reading.Given as goal

abbrev pub invariant-loop-meld : goal.invariant-loop-meld
invariant-loop-meld l = l.sets ≡ l.winning_way.sets ++ map set_of_meld (take l.meld-index l.melds)
