use Rattle.mj_replay.proofs.FollowLaws.{line_next}
use Rattle.mj_replay.proofs.following.follow_start.Goals as goal

pub returns-then-branch-2 : goal.returns-then-branch-2
returns-then-branch-2 c = line_next _ _ _ _ (rw c.if-branch-2.true at c.in_ok-is_line.ensures) (rw c.if-branch.false at c.in_ok-starts_hand.ensures)

pub returns : goal.returns
returns c = rw c.if-branch-2.false at c.in_ok-is_line.ensures
