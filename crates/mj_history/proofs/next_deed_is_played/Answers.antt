use Rattle.mj_history.proofs.Fitting.{next_deed_is_played}
use Rattle.mj_history.proofs.next_deed_is_played.Goals as goal

pub returns : goal.returns
returns c = next_deed_is_played
