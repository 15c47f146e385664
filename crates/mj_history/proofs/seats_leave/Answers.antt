use Rattle.mj_history.proofs.Moves.{seats_leave}
use Rattle.mj_history.proofs.seats_leave.Goals as goal

pub returns : goal.returns
returns c = seats_leave
