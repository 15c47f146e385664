use Rattle.mj_rules.proofs.Greatest.{lawful_wins_are_greatest}
use Rattle.mj_rules.proofs.lawful_wins_are_greatest.Goals as goal

pub returns : goal.returns
returns c = lawful_wins_are_greatest
