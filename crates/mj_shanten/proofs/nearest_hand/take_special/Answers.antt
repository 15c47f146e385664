use Rattle.std.proofs.Common.{arith, refl}
use Rattle.mj_shanten.proofs.Goal.{special_off, special_on}
use Rattle.mj_shanten.proofs.Special.{special_far}
use Rattle.mj_shanten.proofs.nearest_hand.take_special.Goals as goal

pub returns-then-melds-gt0 : goal.returns-then-melds-gt0
returns-then-melds-gt0 c = special_off _ _ _ c.if-melds-gt0.true

pub returns-then-is_nearer : goal.returns-then-is_nearer
returns-then-is_nearer c = special_far _ _ _ _ (c.if-is_nearer.ensures refl) c.least_of_special.ensures.least

pub returns : goal.returns
returns c = special_on _ _ _ _ _ (omega arith) c.take_pairs.ensures c.take_orphans.ensures
