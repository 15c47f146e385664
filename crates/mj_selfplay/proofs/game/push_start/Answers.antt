use Rattle.mj_selfplay.specs.SelfGame.{self_rules}
use Rattle.mj_selfplay.proofs.Played.{start_may}
use Rattle.mj_selfplay.proofs.game.push_start.Goals as goal

pub push-requires : goal.push-requires
push-requires c = start_may c.args.table.now.rules.red self_rules c.args.table.now c.in_ok-begun.begun c.requires c.in_ok-begun.ensures
