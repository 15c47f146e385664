use Rattle.mj_stepped.proofs.Told.{told-leaving}
use Rattle.mj_stepped.proofs.stepped.Stepped.gone.Goals as goal

pub invariant_of-self : goal.invariant_of-self
invariant_of-self c = told-leaving c.gone.result c.args.author c.args.seat _ _ _ _ _ c.gone.ensures c.self.invariant
