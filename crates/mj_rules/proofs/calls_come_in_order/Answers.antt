use Rattle.mj_rules.proofs.Precedence.{chi_comes, kept_call_comes, nothing_is_called, pon_or_kan_comes}
use Rattle.mj_rules.proofs.calls_come_in_order.Goals as goal

pub returns : goal.returns
returns c = record { triplet = pon_or_kan_comes; run = chi_comes; none = nothing_is_called; kept = kept_call_comes }
