use Rattle.mj_secrecy.proofs.Witness.{games_agree_apart}
use Rattle.mj_secrecy.proofs.some_games_agree_apart.Goals as goal

pub returns : goal.returns
returns c = games_agree_apart
