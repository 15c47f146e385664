use Rattle.mj_embedded.proofs.Limits.{leaves_four}
use Rattle.mj_embedded.proofs.arrivals.leave.Goals as goal

pub returns : goal.returns
returns c = leaves_four c.args.seat c.args.game.now c.leave_one.new.game c.leave_one.result c.if-seat-gt3.false c.leave_one.ensures
