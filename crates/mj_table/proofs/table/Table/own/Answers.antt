use Rattle.mj_table.proofs.table.Table.own.Goals as goal

pub returns : goal.returns
returns c = c.kept.ensures.own
