use Rattle.mj_replay.proofs.FollowLaws.{no_deed}
use Rattle.mj_replay.proofs.following.follow_read.Goals as goal

pub returns-in-None : goal.returns-in-None
returns-in-None c = no_deed _ (rw c.in-None.is at c.in_ok-deed.ensures)
