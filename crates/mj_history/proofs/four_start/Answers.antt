use Rattle.mj_history.proofs.Edges.{four_start}
use Rattle.mj_history.proofs.four_start.Goals as goal

pub returns : goal.returns
returns c = four_start
