use Rattle.mj_stepped.proofs.Told.{told-expiring}
use Rattle.mj_stepped.proofs.stepped.Stepped.expire.Goals as goal

pub invariant_of-self : goal.invariant_of-self
invariant_of-self c = told-expiring c.expire.result c.args.author c.args.window c.args.t1 c.args.t2 _ _ _ _ _ c.expire.ensures c.self.invariant
