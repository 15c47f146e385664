use Rattle.std.proofs.Common.{◌+◌, ◌*◌, length}
use Rattle.mj_readings.proofs.complete.+completes.Given as goal

abbrev pub decreases-completes : goal.decreases-completes
decreases-completes l = 4 * length l.numbers.now

abbrev pub decreases-completes_at : goal.decreases-completes_at
decreases-completes_at l = 4 * length l.others.now + 3

abbrev pub decreases-completes_with_more : goal.decreases-completes_with_more
decreases-completes_with_more l = 4 * length l.others.now + 2

abbrev pub decreases-goes_on : goal.decreases-goes_on
decreases-goes_on l = 4 * length l.others.now + 1
