use Rattle.mj_records.proofs.HandLaws.{hand_starts_are_read}
use Rattle.mj_records.proofs.laws.hand_starts_are_read.Goals as goal

pub returns : goal.returns
returns c = hand_starts_are_read
