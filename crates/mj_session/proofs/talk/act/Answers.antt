use Rattle.mj_session.proofs.Turning.{takes_none}
use Rattle.mj_session.proofs.talk.act.Goals as goal

pub returns-then-dry-clause-takes : goal.returns-then-dry-clause-takes
returns-then-dry-clause-takes g c = rw c.cut.ensures (takes_none _ _ _ c.args.doing _ _ _ _ c.requires.can)

pub returns-in-Cut-clause-takes : goal.returns-in-Cut-clause-takes
returns-in-Cut-clause-takes g c = rw c.cut-in-Cut.ensures (takes_none _ _ _ c.args.doing _ _ _ _ c.requires.can)
