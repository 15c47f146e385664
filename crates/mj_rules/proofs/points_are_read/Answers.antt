use Rattle.mj_rules.proofs.Said.{points_are_read}
use Rattle.mj_rules.proofs.points_are_read.Goals as goal

pub returns : goal.returns
returns c = points_are_read
