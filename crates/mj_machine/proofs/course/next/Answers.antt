use Rattle.std.proofs.Common.{◌≡◌, true, false, ap, sym, ◌∙◌, subst}
use Rattle.std.specs.Prelude.{is_some}
use Rattle.mj_table.specs.Plays.{Play}
use Rattle.mj_rules.specs.Played.{IsPlayed}
use Rattle.mj_rules.proofs.Followed.{some_deed_follows}
use Rattle.mj_rules.proofs.Playing.{each_is_wall, played_sound, next_of_played_fits}
use Rattle.mj_machine.proofs.Followed.{can_follow}
use Rattle.mj_machine.proofs.Small.{all_small}
use Rattle.mj_machine.proofs.course.next.Goals as goal

-- The numbers of played deeds are small.
pub follower-requires-clause-small : goal.follower-requires-clause-small
follower-requires-clause-small c =
    let s = played_sound c.args.table.now.rules c.args.walls.now c.args.table.now.deeds (each_is_wall c.args.table.now.rules.red c.args.walls.now c.requires.some c.requires.whole) c.requires.played in
    all_small c.args.table.now.rules.red c.args.walls.now _ _ c.args.table.now.deeds s.fit s.known.fair s.standing

-- Whoever wins after them by lawful answers can.
pub follower-requires-clause-can : goal.follower-requires-clause-can
follower-requires-clause-can c = λ last e.
    can_follow c.args.table.now.rules c.args.walls.now c.args.table.now.deeds c.args.answers.now last
    (each_is_wall c.args.table.now.rules.red c.args.walls.now c.requires.some c.requires.whole) c.requires.played c.requires.lawful e

-- The deed that lawful answers give after played deeds fits there.
pub push-requires : goal.push-requires
push-requires c =
    (next_of_played_fits c.args.table.now.rules c.args.walls.now c.args.table.now.deeds c.args.answers.now c.in-Some.deed
    (each_is_wall c.args.table.now.rules.red c.args.walls.now c.requires.some c.requires.whole) c.requires.played c.requires.lawful (sym c.in_ok-deed.ensures ∙ c.in-Some.is)).0

-- And the deeds are played with it.
pub returns-clause-played : goal.returns-clause-played
returns-clause-played c =
    subst (λ (p : Play). IsPlayed c.args.table.now.rules c.args.walls.now p.deeds) (sym c.in_ok-push-in-Some.ensures.ok)
    (next_of_played_fits c.args.table.now.rules c.args.walls.now c.args.table.now.deeds c.args.answers.now c.in-Some.deed
    (each_is_wall c.args.table.now.rules.red c.args.walls.now c.requires.some c.requires.whole) c.requires.played c.requires.lawful (sym c.in_ok-deed.ensures ∙ c.in-Some.is)).1

-- Some deed does follow.
pub unreachable-requires : goal.unreachable-requires
unreachable-requires c =
    no (sym (ap is_some (sym c.in_ok-deed.ensures ∙ c.in-None.is))
    ∙ some_deed_follows c.args.table.now.rules c.args.walls.now c.args.table.now.deeds c.args.answers.now
    (each_is_wall c.args.table.now.rules.red c.args.walls.now c.requires.some c.requires.whole) c.requires.played c.requires.lawful c.requires.on)
  where
    no : false ≡ true → ⊥
    no e = cc
