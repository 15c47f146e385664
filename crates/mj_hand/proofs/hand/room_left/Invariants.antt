-- The room of the lower kinds.
use Rattle.std.proofs.Common.{ℕ, ◌≡◌, ◌-◌, ◌<◌, ◌≤◌, get_or, length}
use Rattle.mj_hand.proofs.hand.room_left.Given as goal

abbrev pub invariant-loop-kind : goal.invariant-loop-kind
invariant-loop-kind l = record {
  size : length l.room ≡ 34;
  written : (k : ℕ) → k < l.kind → get_or l.room k 0 ≡ 4 - get_or l.melded k 0;
  bound : (k : ℕ) → get_or l.room k 0 ≤ 4;
}
