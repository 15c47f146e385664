use Rattle.mj_suits.proofs.Tables.{same_suit}
use Rattle.mj_suits.proofs.table.nearest.Goals as goal

pub returns : goal.returns
returns c = same_suit _ _ _ _ _ _ _ c.new.ensures c.best.ensures
