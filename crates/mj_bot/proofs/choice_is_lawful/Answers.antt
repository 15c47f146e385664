use Rattle.mj_bot.proofs.Promises as promises
use Rattle.mj_bot.proofs.choice_is_lawful.Goals as goal

pub returns : goal.returns
returns c = promises.choice_is_lawful
