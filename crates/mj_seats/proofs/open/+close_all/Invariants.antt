use Rattle.std.proofs.Common.{length}
use Rattle.mj_seats.proofs.open.+close_all.Given as goal

abbrev pub decreases-close_all : goal.decreases-close_all
decreases-close_all g l = length l.turns.items
