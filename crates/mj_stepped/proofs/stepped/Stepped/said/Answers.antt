use Rattle.mj_stepped.proofs.Told.{told-hearing}
use Rattle.mj_stepped.proofs.stepped.Stepped.said.Goals as goal

pub invariant_of-self : goal.invariant_of-self
invariant_of-self c = told-hearing c.said.result c.args.author c.args.seat _ _ _ _ _ _ c.said.ensures c.self.invariant
