use Rattle.std.proofs.Common.{◌+◌, ◌*◌, length}
use Rattle.mj_readings.proofs.winning_way.+winning_way_at.Given as goal

abbrev pub decreases-winning_way_at : goal.decreases-winning_way_at
decreases-winning_way_at l = 4 * length l.numbers.now

abbrev pub decreases-pair_at : goal.decreases-pair_at
decreases-pair_at l = 4 * length l.others.now + 2

abbrev pub decreases-branch_at : goal.decreases-branch_at
decreases-branch_at l = 4 * length l.others.now + 1
