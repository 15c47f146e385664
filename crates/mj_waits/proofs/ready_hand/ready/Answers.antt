use Rattle.mj_waits.proofs.WaitSteps.{ready_as}
use Rattle.mj_waits.proofs.ready_hand.ready.Goals as goal

pub returns : goal.returns
returns c =
    let both = ready_as c.args.counts.now c.args.room.now c.args.melds c.waits.result c.is_empty.result c.waits.ensures.value c.waits.ensures.law c.is_empty.ensures in
    record { value = both.0; law = both.1 }
