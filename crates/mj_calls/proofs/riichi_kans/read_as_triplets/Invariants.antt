use Rattle.std.proofs.Common.{ℕ, ◌≡◌, ◌<◌, true}
use Rattle.mj_calls.specs.RiichiKans.{reads_as_triplet}
use Rattle.mj_calls.proofs.riichi_kans.read_as_triplets.Given as goal

abbrev pub invariant-loop-number : goal.invariant-loop-number
invariant-loop-number l = (k : ℕ) → k < l.number → reads_as_triplet l.before l.room l.melds l.kind k ≡ true
