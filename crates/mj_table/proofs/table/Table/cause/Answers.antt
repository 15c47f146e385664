use Rattle.std.specs.Prelude.{option_copied}
use Rattle.mj_table.proofs.LatestTold.{cause_told}
use Rattle.mj_table.specs.Inner.Latest.{newest_of, previous_of}
use Rattle.mj_table.proofs.table.Table.cause.Goals as goal

pub returns : goal.returns
returns c =
    cause_told c.self.inside.rules c.self.inside.past.items c.args.self.now (newest_of c.self.inside.latest) (previous_of c.self.inside.latest)
    (option_copied c.newest.result) (option_copied c.previous.result) (option_copied c.cause.result)
    c.self.invariant.fit c.self.invariant.latest c.self.invariant.previous c.self.view_is c.newest.ensures c.previous.ensures c.cause.ensures
