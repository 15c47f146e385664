use Rattle.mj_history.proofs.Moves.{others_leave_alone}
use Rattle.mj_history.proofs.others_leave_alone.Goals as goal

pub returns : goal.returns
returns c = others_leave_alone
