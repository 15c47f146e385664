use Rattle.std.proofs.Common.{arith}
use Rattle.std.proofs.lemmas.List.{length-take-le}
use Rattle.mj_shanten.proofs.Special.{special_misses}
use Rattle.mj_shanten.proofs.nearest_hand.least_of_special.Goals as goal

pub returns-clause-least : goal.returns-clause-least
returns-clause-least c = special_misses c.args.held.now c.saturating_sub-pairs.result c.missing_tiles.result _ (omega arith) (omega arith)
    (length-take-le 34 c.args.held.now (omega arith)) (omega arith) c.missing_tiles.ensures
