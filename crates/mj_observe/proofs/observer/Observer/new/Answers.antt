use Rattle.mj_observe.proofs.Keeping.{kept_none}
use Rattle.mj_observe.proofs.observer.Observer.new.Goals as goal

pub invariant_of-result : goal.invariant_of-result
invariant_of-result c = kept_none _ _ c.new.ensures.items c.new-4.ensures
