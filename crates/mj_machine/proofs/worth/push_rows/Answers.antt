use Rattle.mj_yaku.specs.Han.{han}
use Rattle.mj_yaku.specs.Rows.{has_row}
use Rattle.mj_machine.proofs.RowSteps.{row_pushed, all_pushed}
use Rattle.mj_machine.proofs.worth.push_rows.Goals as goal

pub loop-row-preserved : goal.loop-row-preserved
loop-row-preserved c =
    row_pushed (has_row c.args.yaku) (λ row. (row, han row c.args.closed)) c.loop-row.row c.args.rows.now c.loop-row.rows _ c.loop-row.invariant c.in_ok-push_row.ensures

pub returns : goal.returns
returns c = all_pushed c.args.yaku (λ row. (row, han row c.args.closed)) c.loop-row.row c.args.rows.now c.loop-row.rows c.loop-row.invariant c.loop-row.auto.row-end c.loop-row-test.false
