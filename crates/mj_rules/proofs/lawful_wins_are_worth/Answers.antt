use Rattle.mj_rules.proofs.Paid.{lawful_wins_are_worth}
use Rattle.mj_rules.proofs.lawful_wins_are_worth.Goals as goal

pub returns : goal.returns
returns c = lawful_wins_are_worth
