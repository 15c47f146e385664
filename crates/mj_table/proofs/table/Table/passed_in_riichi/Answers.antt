use Rattle.mj_table.proofs.table.Table.passed_in_riichi.Goals as goal

pub returns : goal.returns
returns c = c.kept.ensures.passed_in_riichi
