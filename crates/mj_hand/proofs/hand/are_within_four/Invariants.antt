-- No lower kind stands more than four times.
use Rattle.std.proofs.Common.{ℕ, ◌+◌, ◌<◌, ◌≤◌, get_or}
use Rattle.mj_hand.proofs.hand.are_within_four.Given as goal

abbrev pub invariant-loop-number : goal.invariant-loop-number
invariant-loop-number l = (k : ℕ) → k < l.number → get_or l.counts k 0 + get_or l.melded k 0 ≤ 4
