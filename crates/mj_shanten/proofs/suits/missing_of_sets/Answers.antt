use Rattle.mj_shanten.proofs.Whole.{least_joint}
use Rattle.mj_shanten.proofs.suits.missing_of_sets.Goals as goal

pub returns-clause-least : goal.returns-clause-least
returns-clause-least c = least_joint _ _ _ _ _ _ _ _ _ _ c.suits.view_is c.suits.invariant c.requires c.at.ensures
