use Rattle.std.proofs.Common.{arith}
use Rattle.mj_shanten.proofs.Whole.{part_suit}
use Rattle.mj_shanten.proofs.suits.from_honours.Goals as goal

pub row_of-honours-requires-clause-suit : goal.row_of-honours-requires-clause-suit
row_of-honours-requires-clause-suit c = (let wide = c.requires.wide in part_suit _ _ 27 _ _ wide.held_size (omega arith) wide.within wide.of_four wide.room_size c.suit_at.ensures)
