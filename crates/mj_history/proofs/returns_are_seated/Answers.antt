use Rattle.mj_history.proofs.Edges.{returns_are_seated}
use Rattle.mj_history.proofs.returns_are_seated.Goals as goal

pub returns : goal.returns
returns c = returns_are_seated
