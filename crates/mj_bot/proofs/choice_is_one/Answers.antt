use Rattle.mj_bot.proofs.One as one
use Rattle.mj_bot.proofs.choice_is_one.Goals as goal

pub returns : goal.returns
returns c = one.choice_is_one
