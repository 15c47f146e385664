use Rattle.mj_waits.proofs.Missed.{first_has, second_has, third_decides, none_missed}
use Rattle.mj_waits.proofs.furiten_rule.misses_some.Goals as goal

pub returns-then-is_completed_by-clause-value : goal.returns-then-is_completed_by-clause-value
returns-then-is_completed_by-clause-value c =
    first_has c.args.counts.now c.args.melds c.args.own c.args.passed c.args.passed_in_riichi c.is_completed_by.result c.is_completed_by.ensures c.if-is_completed_by.true

pub returns-then-misses_passed-clause-value : goal.returns-then-misses_passed-clause-value
returns-then-misses_passed-clause-value c =
    second_has c.args.counts.now c.args.melds c.args.own c.args.passed c.args.passed_in_riichi c.misses_passed.result c.misses_passed.ensures c.if-misses_passed.true

pub returns-clause-value : goal.returns-clause-value
returns-clause-value c =
    third_decides c.args.counts.now c.args.melds c.args.own c.args.passed c.args.passed_in_riichi c.is_completed_by.result c.misses_passed.result c.misses_passed-2.result
    c.is_completed_by.ensures c.if-is_completed_by.false c.misses_passed.ensures c.if-misses_passed.false c.misses_passed-2.ensures

pub returns-clause-law : goal.returns-clause-law
returns-clause-law c = λ none room few.
    none_missed c.args.counts.now room c.args.melds c.args.own c.args.passed c.args.passed_in_riichi c.misses_passed-2.result
    (third_decides c.args.counts.now c.args.melds c.args.own c.args.passed c.args.passed_in_riichi c.is_completed_by.result c.misses_passed.result c.misses_passed-2.result
    c.is_completed_by.ensures c.if-is_completed_by.false c.misses_passed.ensures c.if-misses_passed.false c.misses_passed-2.ensures)
    none few
