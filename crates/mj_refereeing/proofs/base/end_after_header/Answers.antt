use Rattle.mj_refereeing.proofs.BaseLaws.{end-none}
use Rattle.mj_refereeing.proofs.base.end_after_header.Goals as goal

pub returns-in-None : goal.returns-in-None
returns-in-None c = end-none c.args.rest.now _ c.in-None.ensures c.end_at.ensures
