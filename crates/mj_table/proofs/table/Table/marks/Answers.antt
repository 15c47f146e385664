use Rattle.mj_deeds.specs.Hand.{hand}
use Rattle.mj_table.proofs.table.Table.marks.Goals as goal

pub returns : goal.returns
returns c = c.told.ensures (hand c.args.self.now.deeds) c.args.seat c.kept.ensures.marks
