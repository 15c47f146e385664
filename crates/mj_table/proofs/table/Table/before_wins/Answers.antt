use Rattle.std.specs.Prelude.{option_copied}
use Rattle.mj_table.proofs.LatestTold.{wins_told}
use Rattle.mj_table.specs.Inner.Latest.{newest_of, previous_of}
use Rattle.mj_table.proofs.table.Table.before_wins.Goals as goal

pub returns : goal.returns
returns c =
    wins_told c.self.inside.rules c.self.inside.past.items c.args.self.now c.self.inside.facts.begun (newest_of c.self.inside.latest)
    (previous_of c.self.inside.latest) (option_copied c.newest.result) (option_copied c.previous.result)
    (option_copied c.before_wins.result) c.self.invariant.facts.begun c.self.invariant.latest c.self.invariant.previous c.self.view_is c.newest.ensures c.previous.ensures c.before_wins.ensures
