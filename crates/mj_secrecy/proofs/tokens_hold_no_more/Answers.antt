use Rattle.mj_secrecy.proofs.Bare.{token_of_bare}
use Rattle.mj_secrecy.proofs.tokens_hold_no_more.Goals as goal

pub returns : goal.returns
returns c = token_of_bare
