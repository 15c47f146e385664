use Rattle.mj_history.proofs.Seated.{beginnings_are_legal}
use Rattle.mj_history.proofs.beginnings_are_legal.Goals as goal

pub returns : goal.returns
returns c = beginnings_are_legal
