use Rattle.std.proofs.Common.{length}
use Rattle.mj_tables.proofs.tables.+by_table.Given as goal

abbrev pub decreases-by_table : goal.decreases-by_table
decreases-by_table g l = length l.tables.items
