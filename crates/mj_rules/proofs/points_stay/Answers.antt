use Rattle.mj_rules.proofs.Balance.{total_stays}
use Rattle.mj_rules.proofs.points_stay.Goals as goal

pub returns : goal.returns
returns c = total_stays
