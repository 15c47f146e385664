use Rattle.mj_records.proofs.ValueLaws.{read_start}
use Rattle.mj_records.proofs.usual.begins_hand.Goals as goal

pub returns-in-Some : goal.returns-in-Some
returns-in-Some c = λ yes deed r. read_start _ _ deed c.in-Some.ensures r
