use Rattle.mj_records.proofs.ShownLaws.{drawn_hands_are_read}
use Rattle.mj_records.proofs.laws.drawn_hands_are_read.Goals as goal

pub returns : goal.returns
returns c = drawn_hands_are_read
