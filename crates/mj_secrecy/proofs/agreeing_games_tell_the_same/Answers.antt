use Rattle.mj_secrecy.proofs.OneWorld.{agreeing_scripts}
use Rattle.mj_secrecy.proofs.agreeing_games_tell_the_same.Goals as goal

pub returns : goal.returns
returns c = agreeing_scripts
