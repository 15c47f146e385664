use Rattle.std.proofs.Common.{◌≡◌, ◌*◌}
use Rattle.mj_readings.specs.Completing.{is_completing}
use Rattle.mj_readings.proofs.KindsBelow.{kinds_below}
use Rattle.mj_readings.proofs.completing_kinds.completing.Given as goal

abbrev pub invariant-loop-suit : goal.invariant-loop-suit
invariant-loop-suit l = l.kinds ≡ kinds_below (is_completing l.counts l.melds) (9 * l.suit)
