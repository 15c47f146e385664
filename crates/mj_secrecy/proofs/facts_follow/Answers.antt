use Rattle.mj_secrecy.proofs.Follows.{same_facts}
use Rattle.mj_secrecy.proofs.facts_follow.Goals as goal

pub returns : goal.returns
returns c = same_facts
