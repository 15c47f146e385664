use Rattle.mj_secrecy.proofs.Safer.{safe_in_every_game}
use Rattle.mj_secrecy.proofs.safe_tiles_stay_safe.Goals as goal

pub returns : goal.returns
returns c = safe_in_every_game
