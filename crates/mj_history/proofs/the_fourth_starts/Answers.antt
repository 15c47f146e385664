use Rattle.mj_history.proofs.Edges.{the_fourth_starts}
use Rattle.mj_history.proofs.the_fourth_starts.Goals as goal

pub returns : goal.returns
returns c = the_fourth_starts
