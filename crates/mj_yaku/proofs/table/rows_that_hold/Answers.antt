use Rattle.std.proofs.Common.{arith, ◌∙◌}
use Rattle.mj_yaku.proofs.RowLists.{rows_from-none, rows_from-has, rows_from-lacks}
use Rattle.mj_yaku.proofs.table.rows_that_hold.Goals as goal

pub loop-row-init : goal.loop-row-init
loop-row-init c = record { within = omega arith; gathered = c.none-set.ensures ∙ rows_from-none _ }

pub loop-row-preserved-then-rows-row : goal.loop-row-preserved-then-rows-row
loop-row-preserved-then-rows-row c = record {
  within = omega (arith, c.loop-row.invariant.within);
  gathered = c.with-set.ensures ∙ rows_from-has _ _ _ _ _ (omega arith) (omega (arith, c.loop-row.invariant.within)) c.loop-row.invariant.gathered c.if-rows-row.true;
}

pub loop-row-preserved : goal.loop-row-preserved
loop-row-preserved c = record {
  within = omega (arith, c.loop-row.invariant.within);
  gathered = rows_from-lacks _ _ _ _ _ (omega arith) (omega (arith, c.loop-row.invariant.within)) c.loop-row.invariant.gathered c.if-rows-row.false;
}
