use Rattle.mj_selfplay.proofs.Whole.{whole_games_are_played}
use Rattle.mj_selfplay.proofs.whole_games_are_played.Goals as goal

pub returns : goal.returns
returns c = whole_games_are_played
