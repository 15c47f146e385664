use Rattle.mj_history.proofs.Told.{told_answers_give}
use Rattle.mj_history.proofs.told_answers_give.Goals as goal

pub returns : goal.returns
returns c = told_answers_give
