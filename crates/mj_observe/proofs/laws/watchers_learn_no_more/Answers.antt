use Rattle.mj_observe.proofs.Watching.{learn_no_more}
use Rattle.mj_observe.proofs.laws.watchers_learn_no_more.Goals as goal

pub returns : goal.returns
returns c = learn_no_more
