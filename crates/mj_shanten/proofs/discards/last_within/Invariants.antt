-- Each discard from here on leaves more.
use Rattle.std.proofs.Common.{◌≤◌}
use Rattle.mj_shanten.proofs.BestDiscard.{MoreFrom}
use Rattle.mj_shanten.proofs.discards.last_within.Given as goal

abbrev pub invariant-loop-number : goal.invariant-loop-number
invariant-loop-number l = (l.number ≤ 34) × MoreFrom l.suits.counts l.suits.room l.melds l.kinds l.most l.number

abbrev pub decreases-loop-number : goal.decreases-loop-number
decreases-loop-number l = l.number
