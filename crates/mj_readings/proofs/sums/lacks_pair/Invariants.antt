-- No kind gone through stands twice.
use Rattle.std.proofs.Common.{ℕ, ◌<◌, ◌+◌, get_or}
use Rattle.mj_readings.proofs.sums.lacks_pair.Given as goal

abbrev pub invariant-loop-place : goal.invariant-loop-place
invariant-loop-place l = (place : ℕ) → place < l.place → get_or l.numbers (l.from + place) 0 < 2
