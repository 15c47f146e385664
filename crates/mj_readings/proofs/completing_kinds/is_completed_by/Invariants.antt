-- No kind of the suits gone through is one of the set and completes the hand.
use Rattle.std.proofs.Common.{ℕ, ◌≡◌, ◌<◌, ◌*◌, ◌&&◌, false}
use Rattle.mj_tiles.specs.Kinds.{has_kind}
use Rattle.mj_readings.specs.Completing.{is_completing}
use Rattle.mj_readings.proofs.completing_kinds.is_completed_by.Given as goal

abbrev pub invariant-loop-suit : goal.invariant-loop-suit
invariant-loop-suit l = (k : ℕ) → k < 34 → k < 9 * l.suit → (has_kind l.among k && is_completing l.counts l.melds k) ≡ false
