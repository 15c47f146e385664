use Rattle.mj_history.proofs.AnyOrder.{any_order_is_free}
use Rattle.mj_history.proofs.any_order_is_free.Goals as goal

pub returns : goal.returns
returns c = any_order_is_free
