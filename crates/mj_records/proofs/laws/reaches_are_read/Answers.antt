use Rattle.mj_records.proofs.ReachLaws.{reaches_are_read}
use Rattle.mj_records.proofs.laws.reaches_are_read.Goals as goal

pub returns : goal.returns
returns c = reaches_are_read
