use Rattle.mj_rules.proofs.Playing.{played_deeds_fit}
use Rattle.mj_rules.proofs.played_deeds_fit.Goals as goal

pub returns : goal.returns
returns c = played_deeds_fit
