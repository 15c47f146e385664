use Rattle.mj_history.proofs.AnyOrder.{any_order_lies_in}
use Rattle.mj_history.proofs.any_order_lies_in.Goals as goal

pub returns : goal.returns
returns c = any_order_lies_in
