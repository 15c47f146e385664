use Rattle.std.proofs.Common.{refl}
use Rattle.mj_hosting.proofs.NewLaws.{none_new, one_new}
use Rattle.mj_hosting.proofs.plays.new_games.Goals as goal

pub loop-table-init : goal.loop-table-init
loop-table-init c = none_new _ _ c.new-games.ensures.items

pub loop-table-preserved : goal.loop-table-preserved
loop-table-preserved c = one_new _ _ _ _ _ _ refl c.in_ok-game.ensures c.in_ok-push.ensures.items c.loop-table.invariant
