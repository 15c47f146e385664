use Rattle.mj_history.proofs.Told.{nothing_played}
use Rattle.mj_history.proofs.nothing_played.Goals as goal

pub returns : goal.returns
returns c = nothing_played
