use Rattle.mj_rules.proofs.Winners.{few_draws}
use Rattle.mj_rules.proofs.few_draws.Goals as goal

pub returns : goal.returns
returns c = few_draws
