use Rattle.std.proofs.Common.{rules, ◌≡◌, true, false}
use Rattle.mj_deeds.specs.Facts.{newest}
use Rattle.mj_rules.specs.Outcome.{goes_on}
use Rattle.mj_replay.proofs.FollowLaws.{start_over, start_none}
use Rattle.mj_replay.proofs.following.starts_hand.Goals as goal

pub returns-then-not-can_go_on : goal.returns-then-not-can_go_on
returns-then-not-can_go_on c =
    let off : goes_on (newest c.args.table.now.deeds) ≡ false = search rules in
    start_over _ _ _ _ off c.requires.start

pub returns : goal.returns
returns c =
    let on : goes_on (newest c.args.table.now.deeds) ≡ true = search rules in
    start_none _ _ _ _ _ c.requires.some c.requires.whole c.requires.played c.requires.start on c.four_passes-answers.ensures (rw c.if-branch.false at c.in_ok-follows_by.ensures)
