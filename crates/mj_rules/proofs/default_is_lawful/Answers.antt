use Rattle.mj_rules.proofs.Defaults.{fitting_default_is_lawful, played_default_is_lawful}
use Rattle.mj_rules.proofs.default_is_lawful.Goals as goal

pub returns : goal.returns
returns c = record { fitting = fitting_default_is_lawful; played = played_default_is_lawful }
