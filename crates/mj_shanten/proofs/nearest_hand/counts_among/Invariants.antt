-- The numbers written so far.
use Rattle.std.proofs.Common.{◌≡◌, ◌<◌, ℕ, get_or, length}
use Rattle.mj_shanten.proofs.nearest_hand.counts_among.Given as goal

abbrev pub invariant-loop-kind : goal.invariant-loop-kind
invariant-loop-kind l = record {
  size : length l.numbers ≡ 34;
  written : (k : ℕ) → k < l.kind → get_or l.numbers k 0 ≡ get_or l.wide k 0;
}
