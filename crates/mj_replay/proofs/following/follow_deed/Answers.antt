use Rattle.std.proofs.Common.{sym}
use Rattle.mj_replay.proofs.FollowLaws.{is_next, other_line}
use Rattle.mj_replay.proofs.following.follow_deed.Goals as goal

pub returns-then-branch-2 : goal.returns-then-branch-2
returns-then-branch-2 c =
    is_next _ _ _ _ c.args.deed.now _ (sym c.requires.read) c.in_ok-is_line_of.ensures c.if-branch-2.true (rw c.if-branch.false at c.in_ok-follows.ensures)

pub returns : goal.returns
returns c = other_line _ c.args.deed.now _ (sym c.requires.read) c.in_ok-is_line_of.ensures c.if-branch-2.false
