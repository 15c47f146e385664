-- The numbers written so far.
use Rattle.std.proofs.Common.{◌≡◌, ◌+◌, ◌<◌, ℕ, get_or, length}
use Rattle.mj_memory.proofs.counting.nine_from.Given as goal

abbrev pub invariant-loop-n : goal.invariant-loop-n
invariant-loop-n l = record {
  size : length l.nine ≡ 9;
  read : (k : ℕ) → k < l.n → get_or l.nine k 0 ≡ get_or l.numbers (l.from + k) 0;
}
