use Rattle.mj_history.proofs.Seated.{ended_connections_stay}
use Rattle.mj_history.proofs.ended_connections_stay.Goals as goal

pub returns : goal.returns
returns c = ended_connections_stay
