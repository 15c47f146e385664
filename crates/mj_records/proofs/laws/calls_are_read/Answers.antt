use Rattle.mj_records.proofs.CallLaws.{calls_are_read}
use Rattle.mj_records.proofs.laws.calls_are_read.Goals as goal

pub returns : goal.returns
returns c = calls_are_read
