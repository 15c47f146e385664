use Rattle.std.proofs.Common.{length}
use Rattle.mj_durable.proofs.logged.+log_each.Given as goal

abbrev pub decreases-log_each : goal.decreases-log_each
decreases-log_each g l = length l.games.now.items
