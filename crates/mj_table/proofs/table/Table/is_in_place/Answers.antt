use Rattle.std.specs.Prelude.{option_copied}
use Rattle.mj_table.proofs.LatestTold.{place_told}
use Rattle.mj_table.specs.Inner.Latest.{newest_of, previous_of}
use Rattle.mj_table.proofs.table.Table.is_in_place.Goals as goal

pub returns : goal.returns
returns c =
    place_told c.self.inside.rules c.self.inside.past.items c.args.self.now c.args.deed.now (newest_of c.self.inside.latest)
    (previous_of c.self.inside.latest) (option_copied c.newest-newest.result) (option_copied c.previous.result)
    (option_copied c.taken.result) c.self.inside.standing c.self.inside.points c.self.inside.deposits c.self.inside.held c.self.inside.facts
    c.hand_end.result c.is_in_place.result c.self.invariant c.self.view_is
    c.newest-newest.ensures c.previous.ensures c.taken.ensures c.hand_end.ensures c.is_in_place.ensures
