use Rattle.mj_safety.proofs.Orders.{first_reason}
use Rattle.mj_safety.proofs.first_reason_is_given.Goals as goal

pub returns : goal.returns
returns c = first_reason
