use Rattle.std.proofs.Common.{length}
use Rattle.mj_durable.proofs.opening.+close_all.Given as goal

abbrev pub decreases-close_all : goal.decreases-close_all
decreases-close_all g l = length l.games.items
