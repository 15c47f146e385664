use Rattle.std.proofs.Common.{refl}
use Rattle.mj_suits.proofs.Tables.{none_read, nearest_read}
use Rattle.mj_suits.proofs.table.SuitTable.best.Goals as goal

pub returns-in-Some : goal.returns-in-Some
returns-in-Some c = nearest_read _ _ _ _ _ _ _ _ _ _ _ _ _ c.self.view_is c.self.invariant c.requires c.pairs_of-pairs.ensures c.at.ensures c.in-Some.ensures

pub returns-in-None : goal.returns-in-None
returns-in-None c = none_read _ _ _ _ _ _ _ _ _ _ c.self.view_is c.self.invariant c.requires c.pairs_of-pairs.ensures refl c.in-None.ensures
