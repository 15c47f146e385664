use Rattle.mj_stepped.proofs.Told.{told-sitting}
use Rattle.mj_stepped.proofs.stepped.Stepped.sit.Goals as goal

pub invariant_of-self : goal.invariant_of-self
invariant_of-self c = told-sitting c.sit.result c.args.author _ _ _ _ _ _ c.sit.ensures c.self.invariant
