use Rattle.mj_history.proofs.Windows.{windows_decide}
use Rattle.mj_history.proofs.windows_decide.Goals as goal

pub returns : goal.returns
returns c = windows_decide
