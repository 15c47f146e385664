use Rattle.mj_history.proofs.Fitting.{own_part_can_go_on}
use Rattle.mj_history.proofs.own_part_can_go_on.Goals as goal

pub returns : goal.returns
returns c = own_part_can_go_on
