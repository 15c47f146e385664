use Rattle.std.proofs.Common.{◌∙◌}
use Rattle.mj_table.proofs.NewestHand.{known_of}
use Rattle.mj_table.proofs.table.Table.indicator.Goals as goal

pub returns : goal.returns
returns c = c.at.ensures ∙ (known_of c.self.inside.rules c.self.inside.past.items c.args.self.now c.self.inside.facts c.self.invariant.facts c.self.view_is).course.shown.at c.args.k
