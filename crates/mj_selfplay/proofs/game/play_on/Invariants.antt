use Rattle.std.proofs.Common.{◌-◌, length}
use Rattle.mj_selfplay.specs.Inner.Supplies.{game_walls, AreAtHand}
use Rattle.mj_selfplay.proofs.Played.{InPlay}
use Rattle.mj_selfplay.proofs.game.play_on.Given as goal

abbrev pub invariant-loop-alloc : goal.invariant-loop-alloc
invariant-loop-alloc l = AreAtHand l.seed l.walls × InPlay (game_walls l.seed) l.table l.tally

abbrev pub decreases-loop-alloc : goal.decreases-loop-alloc
decreases-loop-alloc l = 60003 - length l.table.deeds
