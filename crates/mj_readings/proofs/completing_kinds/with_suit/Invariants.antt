use Rattle.std.proofs.Common.{◌≡◌}
use Rattle.mj_readings.specs.Completing.{is_completing}
use Rattle.mj_readings.proofs.KindsBelow.{kinds_below}
use Rattle.mj_readings.proofs.completing_kinds.with_suit.Given as goal

abbrev pub invariant-loop-number : goal.invariant-loop-number
invariant-loop-number l = l.kinds ≡ kinds_below (is_completing l.counts l.known.melds) l.number
