use Rattle.mj_stepped.proofs.Told.{told-hearing}
use Rattle.mj_stepped.proofs.stepped.Stepped.hear.Goals as goal

pub invariant_of-self : goal.invariant_of-self
invariant_of-self c = told-hearing c.hear.result c.args.author c.args.seat _ _ _ _ _ _ c.hear.ensures c.self.invariant
