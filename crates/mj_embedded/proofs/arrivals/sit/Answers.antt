use Rattle.mj_embedded.proofs.Limits.{sits_short}
use Rattle.mj_embedded.proofs.arrivals.sit.Goals as goal

pub returns : goal.returns
returns c = sits_short c.args.line.now c.args.seat.now c.sit_within.new.seat c.args.game.now c.sit_within.new.game c.sit_within.result
    c.if-line-gt-LINE_LIMIT.false c.sit_within.ensures
