use Rattle.mj_rules.proofs.Playing.{next_of_played_fits}
use Rattle.mj_rules.proofs.next_of_played_fits.Goals as goal

pub returns : goal.returns
returns c = next_of_played_fits
