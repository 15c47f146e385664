use Rattle.mj_rules.proofs.Accepted.{accepted_of_discard}
use Rattle.mj_rules.proofs.reaches_are_accepted.Goals as goal

pub returns : goal.returns
returns c = accepted_of_discard
