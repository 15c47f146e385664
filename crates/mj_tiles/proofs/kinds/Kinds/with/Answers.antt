use Rattle.std.proofs.Common.{arith}
use Rattle.mj_tiles.proofs.Bits.{with_bit-within}
use Rattle.mj_tiles.proofs.kinds.Kinds.with.Goals as goal

pub invariant_of-result : goal.invariant_of-result
invariant_of-result c = with_bit-within 34 _ _ (omega arith) c.self.invariant c.number.ensures.within
