use Rattle.mj_records.proofs.WinLaws.{wins_are_read}
use Rattle.mj_records.proofs.laws.wins_are_read.Goals as goal

pub returns : goal.returns
returns c = wins_are_read
