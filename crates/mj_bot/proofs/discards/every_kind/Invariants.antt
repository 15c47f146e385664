-- The kinds so far are in the set.
use Rattle.std.proofs.Common.{ℕ, ◌<◌}
use Rattle.std.specs.Prelude.{IsTrue}
use Rattle.mj_tiles.specs.Kinds.{has_kind}
use Rattle.mj_bot.proofs.discards.every_kind.Given as goal

abbrev pub invariant-loop-number : goal.invariant-loop-number
invariant-loop-number l = (k : ℕ) → k < l.number → IsTrue (has_kind l.kinds k)
