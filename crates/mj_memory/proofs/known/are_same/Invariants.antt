-- Where all are the same so far, each is.
use Rattle.std.proofs.Common.{◌≡◌, ◌<◌, ℕ, true, get_or}
use Rattle.mj_memory.proofs.known.are_same.Given as goal

abbrev pub invariant-loop-n : goal.invariant-loop-n
invariant-loop-n l = l.same ≡ true → (k : ℕ) → k < l.n → get_or l.some k 0 ≡ get_or l.others k 0
