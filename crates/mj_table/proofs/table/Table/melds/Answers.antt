use Rattle.mj_table.proofs.table.Table.melds.Goals as goal

pub returns : goal.returns
returns c = c.kept.ensures.melds
