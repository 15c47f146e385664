use Rattle.mj_table.proofs.table.Table.is_in_riichi.Goals as goal

pub returns : goal.returns
returns c = c.kept.ensures.marks.accepted
