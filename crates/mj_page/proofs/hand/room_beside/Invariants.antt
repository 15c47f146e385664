-- The room of the lower kinds.
use Rattle.std.proofs.Common.{ℕ, ◌≡◌, ◌-◌, ◌<◌, ◌≤◌, get_or, length}
use Rattle.mj_page.specs.Hands.{melded}
use Rattle.mj_page.proofs.hand.room_beside.Given as goal

abbrev pub invariant-loop-kind : goal.invariant-loop-kind
invariant-loop-kind l = record {
  size : length l.room ≡ 34;
  written : (k : ℕ) → k < l.kind → get_or l.room k 0 ≡ 4 - melded l.melds k;
  bound : (k : ℕ) → get_or l.room k 0 ≤ 4;
}
