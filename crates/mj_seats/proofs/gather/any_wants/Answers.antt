use Rattle.mj_seats.proofs.Joining.{one_more, all_looked}
use Rattle.mj_seats.proofs.gather.any_wants.Goals as goal

pub loop-end-preserved : goal.loop-end-preserved
loop-end-preserved g c =
    one_more c.args.ends.now.items c.deref-end-items.result.now c.loop-end.end-index c.end-item.result c.deref-end-items.ensures.value c.loop-end-test.true c.end-item.is
    c.in_default.not-NoMemory c.loop-end.invariant

pub returns : goal.returns
returns g c none = all_looked c.args.ends.now.items c.deref-end-items.result.now c.loop-end.end-index c.deref-end-items.ensures.value c.loop-end-test.false c.loop-end.invariant
