use Rattle.mj_rules.proofs.Lengths.{few_deeds}
use Rattle.mj_rules.proofs.few_deeds.Goals as goal

pub returns : goal.returns
returns c = few_deeds
