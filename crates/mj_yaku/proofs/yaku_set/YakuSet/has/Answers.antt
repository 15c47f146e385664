use Rattle.std.proofs.Common.{sym, arith}
use Rattle.mj_yaku.proofs.RowSets.{has_row-above}
use Rattle.mj_yaku.proofs.yaku_set.YakuSet.has.Goals as goal

pub returns-then-row-ge-ROWS : goal.returns-then-row-ge-ROWS
returns-then-row-ge-ROWS c = sym (has_row-above c.args.self c.args.row (omega (arith, c.self.view_is, c.self.invariant)) c.if-row-ge-ROWS.true)
