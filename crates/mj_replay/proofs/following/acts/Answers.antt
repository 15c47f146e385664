use Rattle.std.proofs.Common.{rules, ◌≡◌, true, false}
use Rattle.mj_deeds.specs.Facts.{newest}
use Rattle.mj_rules.specs.Outcome.{goes_on}
use Rattle.mj_replay.proofs.FollowLaws.{act_over, act_none}
use Rattle.mj_replay.proofs.following.acts.Goals as goal

pub returns-then-not-can_go_on : goal.returns-then-not-can_go_on
returns-then-not-can_go_on c =
    let off : goes_on (newest c.args.table.now.deeds) ≡ false = search rules in
    act_over _ _ _ _ c.args.act off c.requires.read

pub returns : goal.returns
returns c =
    let on : goes_on (newest c.args.table.now.deeds) ≡ true = search rules in
    act_none _ _ _ _ c.args.act _ c.requires.some c.requires.whole c.requires.played c.requires.read on c.act_told-answers.ensures (rw c.if-branch.false at c.in_ok-follows_by.ensures)
