use Rattle.mj_suits.proofs.Walks.{same_chosen}
use Rattle.mj_suits.proofs.suit_walk.choose.Goals as goal

pub returns : goal.returns
returns c = same_chosen _ _ _ _ _ _ _ _ _ c.new.ensures.suit c.new.ensures.after c.new.ensures.row c.requires.row c.requires.sets c.requires.pairs c.choose.ensures
