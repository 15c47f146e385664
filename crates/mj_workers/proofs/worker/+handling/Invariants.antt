use Rattle.std.proofs.Common.{◌+◌, ◌*◌, length}
use Rattle.mj_workers.proofs.worker.+handling.Given as goal

abbrev pub decreases-handle_all : goal.decreases-handle_all
decreases-handle_all g l = 3 * length l.staff.hands.items

abbrev pub decreases-join+arg2 : goal.decreases-join+arg2
decreases-join+arg2 g l = 3 * length l.staff.hands.items + 1
