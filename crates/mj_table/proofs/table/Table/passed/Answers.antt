use Rattle.mj_table.proofs.table.Table.passed.Goals as goal

pub returns : goal.returns
returns c = c.kept.ensures.passed
