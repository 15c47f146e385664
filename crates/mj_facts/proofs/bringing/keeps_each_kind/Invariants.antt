use Rattle.std.proofs.Common.{◌≤◌, ◌<◌, ◌+◌, ℕ, get_or}
use Rattle.mj_tiles.specs.Counts.{number_of}
use Rattle.mj_deeds.specs.Fits.{brought_by}
use Rattle.mj_facts.proofs.bringing.keeps_each_kind.Given as goal

abbrev pub invariant-loop-kind : goal.invariant-loop-kind
invariant-loop-kind l = (k : ℕ) → k < l.kind → get_or l.before k 0 + number_of (brought_by l.deed) k ≤ 4
