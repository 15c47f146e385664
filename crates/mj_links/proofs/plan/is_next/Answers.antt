use Rattle.mj_links.proofs.MemoryLaws.{none_past}
use Rattle.mj_links.proofs.plan.is_next.Goals as goal

pub returns-in-None : goal.returns-in-None
returns-in-None c = none_past c.args.numbers.now c.args.made c.type_inv.numbers c.in-None.ensures
