use Rattle.mj_facts.proofs.SeatsKept.{none_since}
use Rattle.mj_facts.proofs.seat_facts.since_reach.Goals as goal

pub returns : goal.returns
returns c tiles was = none_since _ c.args.reached _ c.none.ensures c.if-reached.false
