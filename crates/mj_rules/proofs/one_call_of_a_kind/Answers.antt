use Rattle.mj_rules.proofs.Precedence.{one_chi, one_pon_or_kan}
use Rattle.mj_rules.proofs.one_call_of_a_kind.Goals as goal

pub returns : goal.returns
returns c = record { triplet = one_pon_or_kan; run = one_chi }
