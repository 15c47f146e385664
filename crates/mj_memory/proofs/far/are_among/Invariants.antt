-- Where all are at most the others so far, each is.
use Rattle.std.proofs.Common.{◌≡◌, ◌<◌, ◌≤◌, ℕ, true, get_or}
use Rattle.mj_memory.proofs.far.are_among.Given as goal

abbrev pub invariant-loop-k : goal.invariant-loop-k
invariant-loop-k l = l.among ≡ true → (k : ℕ) → k < l.k → get_or l.some k 0 ≤ get_or l.others k 0
