use Rattle.mj_history.proofs.Fitting.{next_deed_fits}
use Rattle.mj_history.proofs.next_deed_fits.Goals as goal

pub returns : goal.returns
returns c = next_deed_fits
