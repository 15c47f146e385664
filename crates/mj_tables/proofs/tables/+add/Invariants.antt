use Rattle.std.proofs.Common.{length}
use Rattle.mj_tables.proofs.tables.+add.Given as goal

abbrev pub decreases-add : goal.decreases-add
decreases-add g l = length l.sessions.items
