-- The numbers written so far.
use Rattle.std.proofs.Common.{◌≡◌, ◌+◌, ◌<◌, ℕ, get_or, length, take}
use Rattle.mj_shanten.proofs.nearest_sets.with_nine.Given as goal

abbrev pub invariant-loop-n : goal.invariant-loop-n
invariant-loop-n l = record {
  size : length l.more ≡ 36;
  before : take l.from l.more ≡ take l.from l.target;
  written : (k : ℕ) → k < l.n → get_or l.more (l.from + k) 0 ≡ get_or l.nine k 0;
}
