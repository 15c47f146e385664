use Rattle.std.proofs.Common.{length}
use Rattle.mj_seats.proofs.rooms.+leave.Given as goal

abbrev pub decreases-leave : goal.decreases-leave
decreases-leave g l = length l.rooms.items
