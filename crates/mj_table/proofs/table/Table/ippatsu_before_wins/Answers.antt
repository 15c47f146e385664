use Rattle.mj_table.proofs.table.Table.ippatsu_before_wins.Goals as goal

pub returns : goal.returns
returns c = c.kept.ensures.marks.given
