use Rattle.mj_history.proofs.Fitting.{legal_games_are_played}
use Rattle.mj_history.proofs.legal_games_are_played.Goals as goal

pub returns : goal.returns
returns c = legal_games_are_played
