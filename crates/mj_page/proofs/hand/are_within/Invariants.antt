-- The lower kinds stand four times at most.
use Rattle.std.proofs.Common.{◌≡◌, ◌<◌, ℕ, true}
use Rattle.mj_page.specs.Hands.{is_few}
use Rattle.mj_page.proofs.hand.are_within.Given as goal

abbrev pub invariant-loop-kind : goal.invariant-loop-kind
invariant-loop-kind l = (k : ℕ) → k < l.kind → is_few l.held l.melds k ≡ true
