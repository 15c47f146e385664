use Rattle.std.proofs.Common.{◌+◌, arith}
use Rattle.mj_memory.proofs.Counted.{pairs_of}
use Rattle.mj_memory.proofs.counting.missing_of_pairs.Goals as goal

pub returns : goal.returns
returns c =
    pairs_of c.args.counts.now (c.saturating_sub-twice.result + c.saturating_sub-once.result) c.numbers.ensures.size
    c.kinds_held.result c.kinds_held-2.result c.numbers.result.now c.numbers-2.result.now c.numbers.ensures.value c.numbers-2.ensures.value
    c.kinds_held.ensures c.kinds_held-2.ensures (omega arith)
