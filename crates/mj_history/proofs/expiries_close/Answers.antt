use Rattle.mj_history.proofs.Arriving.{expiries_close}
use Rattle.mj_history.proofs.expiries_close.Goals as goal

pub returns : goal.returns
returns c = expiries_close
