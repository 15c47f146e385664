use Rattle.mj_table.proofs.Sights.{few_brought, table_sees}
use Rattle.mj_table.proofs.table.Table.seen.Goals as goal

pub kinds_seen-requires : goal.kinds_seen-requires
kinds_seen-requires c = few_brought c.self.inside.rules c.self.inside.past.items c.self.inside.facts c.self.invariant.fit c.self.invariant.facts

pub returns : goal.returns
returns c =
    table_sees c.self.inside.rules c.self.inside.past.items c.args.self.now c.self.inside.facts c.kinds_seen.result c.self.inside.held c.args.seat
    c.requires c.self.invariant.fit c.self.invariant.facts c.self.invariant.concealed c.self.view_is
    c.kinds_seen.ensures.size c.kinds_seen.ensures.numbers
