use Rattle.mj_history.proofs.Fitting.{legal_deeds_fit}
use Rattle.mj_history.proofs.legal_deeds_fit.Goals as goal

pub returns : goal.returns
returns c = legal_deeds_fit
