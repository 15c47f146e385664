use Rattle.std.proofs.Common.{arith}
use Rattle.mj_shanten.proofs.Special.{orphans_no_less, both_least}
use Rattle.mj_shanten.proofs.nearest_hand.with_special.Goals as goal

pub returns-then-from-missing_tiles : goal.returns-then-from-missing_tiles
returns-then-from-missing_tiles c = orphans_no_less _ _ c.missing_of_pairs.result _ c.missing_tiles.result (omega arith) c.missing_of_pairs.ensures (omega arith) c.missing_tiles.ensures

pub returns : goal.returns
returns c = both_least _ _ c.missing_of_pairs.result c.min-nearest.result c.missing_of_orphans.result _ (omega arith) c.missing_of_pairs.ensures c.missing_of_orphans.ensures (omega arith)
