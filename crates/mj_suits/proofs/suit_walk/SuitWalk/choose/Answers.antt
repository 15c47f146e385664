use Rattle.std.proofs.Common.{refl, arith}
use Rattle.mj_suits.proofs.Walks.{no_tiles, plan_is, all_chosen}
use Rattle.mj_suits.proofs.suit_walk.SuitWalk.choose.Goals as goal

pub returns-then-sets-pairs-eq0 : goal.returns-then-sets-pairs-eq0
returns-then-sets-pairs-eq0 c = no_tiles _ _ _ _ _ _ _ _ c.self.view_is c.self.invariant c.at-left.ensures c.if-left-eq0.false (omega arith) refl

pub choose_all-requires : goal.choose_all-requires
choose_all-requires c = plan_is _ _ _ _ _ _ c.self.invariant c.requires.sets c.requires.pairs c.at-left.ensures c.if-left-eq0.false

pub returns : goal.returns
returns c = all_chosen _ _ _ _ _ _ _ _ c.self.view_is c.self.invariant c.requires.sets c.requires.pairs c.at-left.ensures c.if-left-eq0.false c.choose_all.ensures
