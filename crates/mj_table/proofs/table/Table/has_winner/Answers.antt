use Rattle.std.proofs.Common.{◌∙◌}
use Rattle.mj_deeds.specs.Hand.{hand}
use Rattle.mj_table.proofs.NewestHand.{known_of}
use Rattle.mj_facts.proofs.WinSteps.{some_winner}
use Rattle.mj_table.proofs.table.Table.has_winner.Goals as goal

pub returns : goal.returns
returns c = (known_of c.self.inside.rules c.self.inside.past.items c.args.self.now c.self.inside.facts c.self.invariant.facts c.self.view_is).course.won ∙ some_winner (hand c.args.self.now.deeds)
