use Rattle.mj_history.proofs.Legality.{read_game_is_legal}
use Rattle.mj_history.proofs.read_games_are_legal.Goals as goal

pub returns : goal.returns
returns c = read_game_is_legal
