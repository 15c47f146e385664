use Rattle.mj_rules.proofs.Playing.{each_is_wall}
use Rattle.mj_rules.proofs.each_is_wall.Goals as goal

pub returns : goal.returns
returns c = each_is_wall
