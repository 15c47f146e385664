use Rattle.mj_replay.specs.Inner.Steps.{IsOfAct}
use Rattle.mj_replay.proofs.FollowLaws.{act_next}
use Rattle.mj_replay.proofs.following.follow.Goals as goal

pub returns-in-Some : goal.returns-in-Some
returns-in-Some c =
    let known : IsOfAct c.args.line.now c.in-Some.act = rw c.in-Some.is at c.requires.act in
    act_next _ _ _ _ c.in-Some.act known.line_of (rw c.if-branch.false at c.in_ok-acts.ensures)
