use Rattle.mj_table.proofs.NewestHand.{known_of, few_known}
use Rattle.mj_table.proofs.table.Table.kans.Goals as goal

pub returns-clause-value : goal.returns-clause-value
returns-clause-value c = (known_of c.self.inside.rules c.self.inside.past.items c.args.self.now c.self.inside.facts c.self.invariant.facts c.self.view_is).kans

pub returns-clause-within : goal.returns-clause-within
returns-clause-within c = few_known c.self.inside.rules.red c.self.inside.past.items c.self.inside.facts c.self.invariant.fit c.self.invariant.facts
