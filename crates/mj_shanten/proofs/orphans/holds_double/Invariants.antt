-- None of the kinds looked at is held twice.
use Rattle.std.proofs.Common.{ℕ, ◌<◌}
use Rattle.mj_shanten.specs.Inner.Special.{IsHeldTwice}
use Rattle.mj_shanten.proofs.orphans.holds_double.Given as goal

abbrev pub invariant-loop-kind : goal.invariant-loop-kind
invariant-loop-kind l = (k : ℕ) → k < l.kind → IsHeldTwice l.held k → ⊥
