use Rattle.mj_rules.proofs.Followed.{some_deed_follows}
use Rattle.mj_rules.proofs.some_deed_follows.Goals as goal

pub returns : goal.returns
returns c = some_deed_follows
