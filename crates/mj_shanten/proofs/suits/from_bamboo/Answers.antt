use Rattle.std.proofs.Common.{arith}
use Rattle.mj_shanten.proofs.Whole.{part_suit}
use Rattle.mj_shanten.proofs.suits.from_bamboo.Goals as goal

pub row_of-bamboo-requires-clause-suit : goal.row_of-bamboo-requires-clause-suit
row_of-bamboo-requires-clause-suit c = (let wide = c.requires.wide in part_suit _ _ 18 _ _ wide.held_size (omega arith) wide.within wide.of_four wide.room_size c.suit_at.ensures)
