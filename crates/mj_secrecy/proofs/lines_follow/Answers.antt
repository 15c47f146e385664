use Rattle.mj_secrecy.proofs.Follows.{same_lines}
use Rattle.mj_secrecy.proofs.lines_follow.Goals as goal

pub returns : goal.returns
returns c = same_lines
