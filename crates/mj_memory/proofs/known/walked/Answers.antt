use Rattle.mj_memory.proofs.Joins.{suit_best}
use Rattle.mj_memory.proofs.known.walked.Goals as goal

pub invariant_of-result : goal.invariant_of-result
invariant_of-result c = suit_best c.args.counts.now c.args.room.now c.args.runs c.start.result.lanes c.with_suit.result.lanes c.start.ensures c.with_suit.ensures
