use Rattle.mj_history.proofs.Seated.{seats_are_closed}
use Rattle.mj_history.proofs.seats_are_closed.Goals as goal

pub returns : goal.returns
returns c = seats_are_closed
