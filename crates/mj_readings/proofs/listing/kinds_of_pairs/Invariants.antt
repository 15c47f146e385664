use Rattle.std.proofs.Common.{◌≡◌, eqb, get_or}
use Rattle.mj_readings.proofs.KindsBelow.{kinds_below}
use Rattle.mj_readings.proofs.listing.kinds_of_pairs.Given as goal

abbrev pub invariant-loop-number : goal.invariant-loop-number
invariant-loop-number l = l.kinds ≡ kinds_below (λ kind. eqb (get_or l.counts kind 0) 2) l.number
