use Rattle.mj_history.proofs.Fitting.{taken_answers_are_lawful}
use Rattle.mj_history.proofs.taken_answers_are_lawful.Goals as goal

pub returns : goal.returns
returns c = taken_answers_are_lawful
