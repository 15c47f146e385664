use Rattle.mj_secrecy.proofs.Follows.{same_verdicts}
use Rattle.mj_secrecy.proofs.verdicts_follow.Goals as goal

pub returns : goal.returns
returns c = same_verdicts
