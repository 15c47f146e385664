use Rattle.mj_deeds.specs.Hand.{hand}
use Rattle.mj_table.proofs.NewestHand.{known_of, live_known}
use Rattle.mj_table.proofs.table.Table.live.Goals as goal

pub returns-clause-value : goal.returns-clause-value
returns-clause-value c =
    live_known (hand c.args.self.now.deeds) c.self.inside.facts c.live.result (known_of c.self.inside.rules c.self.inside.past.items c.args.self.now
    c.self.inside.facts c.self.invariant.facts c.self.view_is)
    c.live.ensures.value
