use Rattle.mj_suits.proofs.Tables.{none_read, fewest_read}
use Rattle.mj_suits.proofs.table.SuitTable.number.Goals as goal

pub returns-then-left-eq0 : goal.returns-then-left-eq0
returns-then-left-eq0 c = none_read _ _ _ _ _ _ _ _ _ _ c.self.view_is c.self.invariant c.requires c.pairs_of.ensures c.at-left.ensures c.if-left-eq0.true

pub returns : goal.returns
returns c = fewest_read _ _ _ _ _ _ _ _ _ _ c.self.view_is c.self.invariant c.requires c.pairs_of.ensures c.at-left.ensures c.if-left-eq0.false
