use Rattle.std.proofs.Common.{rules}
use Rattle.mj_records.specs.Inner.Lists.{row_at}
use Rattle.mj_records.proofs.GatherLaws.{list_lacks, list_goes_on, list_ends_here, list_stops}
use Rattle.mj_records.proofs.lists.rows_from.Goals as goal

pub returns-in_default-clause-value : goal.returns-in_default-clause-value
returns-in_default-clause-value c = list_lacks row_at _ _ _ _ _ c.loop-at-test.true c.loop-at.invariant.0 c.in_default.ensures.value

pub returns-in-Some-strip-2-clause-value : goal.returns-in-Some-strip-2-clause-value
returns-in-Some-strip-2-clause-value c =
    list_ends_here row_at _ _ _ _ _ _ _ _ _ c.loop-at-test.true c.loop-at.invariant.0 c.in-Some.ensures.value c.in_ok-push.ensures.items c.in_default-strip.ensures c.in-Some-strip-2.ensures

pub returns-in-None-clause-value : goal.returns-in-None-clause-value
returns-in-None-clause-value c = list_stops row_at _ _ _ _ _ _ _ c.loop-at-test.true c.loop-at.invariant.0 c.in-Some.ensures.value c.in_default-strip.ensures c.in-None.ensures

pub loop-at-preserved : goal.loop-at-preserved
loop-at-preserved c =
    (list_goes_on row_at _ _ _ _ _ _ _ _ _ c.loop-at-test.true c.loop-at.invariant.0 c.in-Some.ensures.value c.in_ok-push.ensures.items c.in-Some-strip.ensures, search rules)
