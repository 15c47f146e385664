use Rattle.mj_rules.proofs.Precedence.{all_wins_come}
use Rattle.mj_rules.proofs.all_wins_come.Goals as goal

pub returns : goal.returns
returns c = all_wins_come
