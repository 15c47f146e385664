use Rattle.std.proofs.Common.{length}
use Rattle.mj_workers.proofs.columns.+take_column.Given as goal

abbrev pub decreases-take_column : goal.decreases-take_column
decreases-take_column g l = length l.rows.now.items
