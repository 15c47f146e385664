use Rattle.mj_history.proofs.Told.{each_winner_is_told}
use Rattle.mj_history.proofs.each_winner_is_told.Goals as goal

pub returns : goal.returns
returns c = each_winner_is_told
