use Rattle.std.proofs.Common.{length}
use Rattle.mj_workers.proofs.columns.+fill_rows.Given as goal

abbrev pub decreases-fill_rows : goal.decreases-fill_rows
decreases-fill_rows g l = length l.rows.now.items
