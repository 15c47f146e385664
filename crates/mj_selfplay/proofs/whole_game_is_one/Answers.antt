use Rattle.mj_selfplay.proofs.One as one
use Rattle.mj_selfplay.proofs.whole_game_is_one.Goals as goal

pub returns : goal.returns
returns c = one.whole_game_is_one
