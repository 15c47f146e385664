-- The numbers still to come count most, then the tiles left of the number, then the step at that number.
use Rattle.std.proofs.Common.{◌*◌, ◌+◌, ◌-◌, cond, get_or}
use Rattle.mj_suits.proofs.partitioning.+search.Given as goal

abbrev pub decreases-sets_from : goal.decreases-sets_from
decreases-sets_from l = 1024 * (9 - l.next.low) + get_or l.rest.now.left l.next.low 0 + cond l.next.run 6 4

abbrev pub decreases-after_set : goal.decreases-after_set
decreases-after_set l = 1024 * (9 - l.last.low) + get_or l.rest.now.left l.last.low 0 + cond l.last.run 5 3

abbrev pub decreases-pair_at : goal.decreases-pair_at
decreases-pair_at l = 1024 * (9 - l.low) + get_or l.rest.now.left l.low 0 + 2

abbrev pub decreases-next_number : goal.decreases-next_number
decreases-next_number l = 1024 * (9 - l.low) + get_or l.rest.now.left l.low 0 + 1
