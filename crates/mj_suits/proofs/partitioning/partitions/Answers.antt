use Rattle.std.proofs.Common.{refl, rules}
use Rattle.mj_suits.proofs.Whole.{whole_search}
use Rattle.mj_suits.proofs.partitioning.partitions.Goals as goal

pub returns : goal.returns
returns c = whole_search _ _ _ _ _ (search rules) refl c.new-2.ensures.items (rw c.new.ensures.items at c.in_ok-sets_from.ensures.found)
