use Rattle.std.proofs.Common.{arith}
use Rattle.mj_memory.proofs.Counted.{pairs_nearest}
use Rattle.mj_memory.proofs.counting.with_pairs.Goals as goal

pub returns-then-from-missing_of : goal.returns-then-from-missing_of
returns-then-from-missing_of c = λ number some.
    pairs_nearest c.args.counts.now c.numbers.result.now c.args.sets c.missing_of_pairs.result c.min-nearest.result c.missing_of.result number
    (omega arith) c.missing_of_pairs.ensures (omega arith) c.missing_of.ensures c.numbers.ensures.value c.numbers.ensures.size some
