use Rattle.std.proofs.Common.{[]}
use Rattle.mj_selfplay.specs.Inner.Supplies.{game_walls}
use Rattle.mj_selfplay.proofs.Played.{begins, comes_to, goes, nearer, none_within, played_at_hand, tally_few, tally_within, whole_walls}
use Rattle.mj_selfplay.proofs.game.play_on.Goals as goal

pub with-tally-requires-clause-few : goal.with-tally-requires-clause-few
with-tally-requires-clause-few c = none_within c.none.result c.none.ensures

pub with-tally-requires-clause-hands : goal.with-tally-requires-clause-hands
with-tally-requires-clause-hands c = (tally_few c.none.result [] c.none.ensures).hands

pub with-tally-requires-clause-wins : goal.with-tally-requires-clause-wins
with-tally-requires-clause-wins c = (tally_few c.none.result [] c.none.ensures).wins

pub with-tally-requires-clause-draws : goal.with-tally-requires-clause-draws
with-tally-requires-clause-draws c = (tally_few c.none.result [] c.none.ensures).draws

pub loop-alloc-init : goal.loop-alloc-init
loop-alloc-init c =
    (c.in_ok-walls.ensures, begins (game_walls c.args.seed) c.args.table.now c.none.result c.with-tally.result c.in_ok-begun.begun c.requires c.none.ensures c.in_ok-begun.ensures c.with-tally.ensures)

pub step-requires-clause-played : goal.step-requires-clause-played
step-requires-clause-played c =
    played_at_hand c.args.seed c.in_ok-walls-2.walls c.loop-alloc.table c.loop-alloc.tally c.in_ok-walls-2.ensures.enough c.loop-alloc.invariant.1

pub step-requires-clause-whole : goal.step-requires-clause-whole
step-requires-clause-whole c =
    whole_walls c.loop-alloc.table.rules c.in_ok-walls-2.walls c.loop-alloc.invariant.1.rules_are c.in_ok-walls-2.ensures.at_hand.whole

pub with-tally-requires-in-loop-alloc-clause-few : goal.with-tally-requires-in-loop-alloc-clause-few
with-tally-requires-in-loop-alloc-clause-few c =
    tally_within c.args.seed c.in_ok-walls-2.walls c.loop-alloc.table c.loop-alloc.tally c.in_ok-walls-2.ensures.at_hand c.in_ok-walls-2.ensures.enough c.loop-alloc.invariant.1

pub with-tally-requires-in-loop-alloc-clause-hands : goal.with-tally-requires-in-loop-alloc-clause-hands
with-tally-requires-in-loop-alloc-clause-hands c =
    (tally_few c.loop-alloc.tally c.loop-alloc.table.deeds c.loop-alloc.invariant.1.tally_is).hands

pub with-tally-requires-in-loop-alloc-clause-wins : goal.with-tally-requires-in-loop-alloc-clause-wins
with-tally-requires-in-loop-alloc-clause-wins c =
    (tally_few c.loop-alloc.tally c.loop-alloc.table.deeds c.loop-alloc.invariant.1.tally_is).wins

pub with-tally-requires-in-loop-alloc-clause-draws : goal.with-tally-requires-in-loop-alloc-clause-draws
with-tally-requires-in-loop-alloc-clause-draws c =
    (tally_few c.loop-alloc.tally c.loop-alloc.table.deeds c.loop-alloc.invariant.1.tally_is).draws

pub loop-alloc-smaller : goal.loop-alloc-smaller
loop-alloc-smaller c =
    nearer c.args.seed c.in_ok-walls-2.walls c.loop-alloc.table c.step.new.table c.loop-alloc.tally c.in_ok-deed.deed c.in_ok-walls-2.ensures.at_hand
    c.in_ok-walls-2.ensures.enough c.loop-alloc.invariant.1 c.in_ok-deed.ensures.pushed

pub loop-alloc-preserved : goal.loop-alloc-preserved
loop-alloc-preserved c = (
  c.in_ok-walls-2.ensures.at_hand,
  goes c.args.seed c.in_ok-walls-2.walls c.loop-alloc.table c.step.new.table c.loop-alloc.tally
      c.with-tally-in-loop-alloc.result c.in_ok-deed.deed c.in_ok-walls-2.ensures.enough c.loop-alloc.invariant.1 c.in_ok-deed.ensures.chosen
      c.in_ok-deed.ensures.pushed c.in_ok-deed.ensures.played c.with-tally-in-loop-alloc.ensures,
)

pub returns : goal.returns
returns c =
    comes_to (game_walls c.args.seed) c.loop-alloc.table c.loop-alloc.tally c.summary.result c.goes_on.result c.loop-alloc.invariant.1 c.goes_on.ensures c.loop-alloc-test.false c.summary.ensures
