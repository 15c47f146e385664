use Rattle.mj_table.proofs.NewestHand.{seat_kept}
use Rattle.mj_table.proofs.table.Table.kept.Goals as goal

pub returns : goal.returns
returns c = seat_kept c.self.inside.rules c.self.inside.past.items c.args.self.now c.self.inside.facts c.args.seat c.at.result.now c.requires c.self.invariant.facts c.self.view_is c.at.ensures
