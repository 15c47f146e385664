use Rattle.mj_readings.proofs.OneMore.{none_among}
use Rattle.mj_waits.proofs.furiten_rule.misses_passed.Goals as goal

pub returns-then-is_empty : goal.returns-then-is_empty
returns-then-is_empty c = none_among c.args.counts.now c.args.melds c.args.passed c.is_empty.result c.is_empty.ensures c.if-is_empty.true
