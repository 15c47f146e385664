use Rattle.mj_history.proofs.Order.{order_is_free}
use Rattle.mj_history.proofs.order_is_free.Goals as goal

pub returns : goal.returns
returns c = order_is_free
