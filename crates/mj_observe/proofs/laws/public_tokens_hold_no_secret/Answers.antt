use Rattle.mj_observe.proofs.Alike.{tokens_hold_no_secret}
use Rattle.mj_observe.proofs.laws.public_tokens_hold_no_secret.Goals as goal

pub returns : goal.returns
returns c = tokens_hold_no_secret
