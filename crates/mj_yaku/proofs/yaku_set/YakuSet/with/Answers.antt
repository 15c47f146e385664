use Rattle.std.proofs.Common.{arith}
use Rattle.mj_tiles.proofs.Bits.{with_bit-within}
use Rattle.mj_yaku.proofs.yaku_set.YakuSet.with.Goals as goal

pub invariant_of-result : goal.invariant_of-result
invariant_of-result c = with_bit-within 45 _ _ (omega arith) c.self.invariant c.requires
