use Rattle.std.proofs.Common.{length}
use Rattle.mj_durable.proofs.resuming.+stop_of.Given as goal

abbrev pub decreases-stop_of : goal.decreases-stop_of
decreases-stop_of g l = length l.games.now
