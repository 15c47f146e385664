use Rattle.mj_embedded.proofs.Limits.{says_short}
use Rattle.mj_embedded.proofs.arrivals.say.Goals as goal

pub returns : goal.returns
returns c = says_short c.args.seat c.args.line.now c.args.rule.now c.say_within.new.rule c.args.game.now c.say_within.new.game c.say_within.result
    c.if-seat-gt3.false c.if-line-gt-LINE_LIMIT.false c.say_within.ensures
