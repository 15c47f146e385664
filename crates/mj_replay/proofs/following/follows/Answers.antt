use Rattle.std.proofs.Common.{rules, ◌≡◌, true, ap, sym, ◌∙◌}
use Rattle.std.specs.Prelude.{Option}
use Rattle.mj_deeds.specs.declared.deed.Deed.{Deed}
use Rattle.mj_deeds.specs.Facts.{newest}
use Rattle.mj_deeds.specs.Four.{for_each_seat}
use Rattle.mj_rules.specs.Outcome.{goes_on}
use Rattle.mj_history.specs.Told.{told_of}
use Rattle.mj_replay.proofs.FollowLaws.{none_told}
use Rattle.mj_replay.proofs.following.follows.Goals as goal

pub returns : goal.returns
returns c =
    let on : goes_on (newest c.args.table.now.deeds) ≡ true = search rules in
    let told = c.told-answers.ensures ∙ ap (λ (last : Option Deed). for_each_seat (told_of last c.args.deed.now)) c.newest-2.ensures in
    none_told _ _ _ _ _ _ c.requires.some c.requires.whole c.requires.played (sym c.requires.read) on told (rw c.if-branch.false at c.in_ok-follows_by.ensures)
