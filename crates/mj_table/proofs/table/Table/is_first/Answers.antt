use Rattle.mj_deeds.specs.Hand.{hand}
use Rattle.mj_table.proofs.NewestHand.{first_told}
use Rattle.mj_table.proofs.table.Table.is_first.Goals as goal

pub returns : goal.returns
returns c = first_told (hand c.args.self.now.deeds) c.args.seat c.kept.result.now.marks _ c.kept.ensures.marks c.is_first.ensures
