use Rattle.mj_records.proofs.StartLaws.{game_starts_are_read}
use Rattle.mj_records.proofs.laws.game_starts_are_read.Goals as goal

pub returns : goal.returns
returns c = game_starts_are_read
