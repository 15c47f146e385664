-- No kind of the suit gone through is one of the set and completes the hand.
use Rattle.std.proofs.Common.{ℕ, ◌≡◌, ◌≤◌, ◌<◌, ◌*◌, ◌&&◌, false}
use Rattle.mj_tiles.specs.Kinds.{has_kind}
use Rattle.mj_readings.specs.Completing.{is_completing}
use Rattle.mj_readings.proofs.completing_kinds.is_completed_in.Given as goal

abbrev pub invariant-loop-number : goal.invariant-loop-number
invariant-loop-number l =
    (k : ℕ) → 9 * l.suit ≤ k → k < l.number → (has_kind l.among k && is_completing l.counts l.known.melds k) ≡ false
