use Rattle.std.proofs.Common.{◌+◌, ◌*◌, length}
use Rattle.mj_readings.proofs.gathering.+gather.Given as goal

abbrev pub decreases-gather : goal.decreases-gather
decreases-gather l = 4 * length l.numbers.now

abbrev pub decreases-gather_pair : goal.decreases-gather_pair
decreases-gather_pair l = 4 * length l.others.now + 2

abbrev pub decreases-gather_triplet : goal.decreases-gather_triplet
decreases-gather_triplet l = 4 * length l.others.now + 2

abbrev pub decreases-gather_branch : goal.decreases-gather_branch
decreases-gather_branch l = 4 * length l.others.now + 1
