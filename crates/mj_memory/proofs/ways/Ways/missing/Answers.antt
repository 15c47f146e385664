use Rattle.std.proofs.Common.{◌-◌, arith}
use Rattle.mj_memory.proofs.Discarding.{hand_misses}
use Rattle.mj_memory.proofs.ways.Ways.missing.Goals as goal

pub least_missing-requires-clause-sets : goal.least_missing-requires-clause-sets
least_missing-requires-clause-sets c =
    hand_misses c.self.inside.counts c.self.inside.room _ _ _ _ _ (4 - c.args.melds) c.missing_of_sets-sets.result c.self.invariant (omega arith) c.missing_of_sets-sets.ensures
