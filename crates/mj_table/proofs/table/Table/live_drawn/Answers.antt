use Rattle.std.proofs.Common.{◌∙◌}
use Rattle.mj_table.proofs.NewestHand.{known_of}
use Rattle.mj_table.proofs.table.Table.live_drawn.Goals as goal

pub returns : goal.returns
returns c = c.from.ensures ∙ (known_of c.self.inside.rules c.self.inside.past.items c.args.self.now c.self.inside.facts c.self.invariant.facts c.self.view_is).drawn
