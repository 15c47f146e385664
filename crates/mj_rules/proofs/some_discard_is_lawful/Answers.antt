use Rattle.mj_rules.proofs.Defaults.{some_discard_is_lawful}
use Rattle.mj_rules.proofs.some_discard_is_lawful.Goals as goal

pub returns : goal.returns
returns c = some_discard_is_lawful
