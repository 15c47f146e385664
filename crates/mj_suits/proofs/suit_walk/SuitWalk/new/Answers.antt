use Rattle.std.proofs.Common.{arith}
use Rattle.mj_suits.proofs.Nine.{leaves_most}
use Rattle.mj_suits.proofs.Walks.{walk_is, walked_suit}
use Rattle.mj_suits.proofs.suit_walk.SuitWalk.new.Goals as goal

pub invariant_of-result : goal.invariant_of-result
invariant_of-result c = walk_is _ _ _ _ _ (omega arith) (omega arith) (omega arith) c.requires.room c.requires.few c.numbers_of-numbers.ensures.levels c.numbers_of-numbers.ensures.row

pub returns-clause-suit : goal.returns-clause-suit
returns-clause-suit c = walked_suit _ _ _ _ c.numbers_of-numbers.ensures.levels

pub returns-clause-row : goal.returns-clause-row
returns-clause-row c = leaves_most _ _ _ _ _ (omega arith) (omega arith) c.requires.room c.requires.few c.numbers_of-numbers.ensures.row
