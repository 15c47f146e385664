use Rattle.mj_records.proofs.ActLaws.{acts_are_read}
use Rattle.mj_records.proofs.laws.acts_are_read.Goals as goal

pub returns : goal.returns
returns c = acts_are_read
