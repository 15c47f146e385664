use Rattle.std.proofs.Common.{ℕ, ◌≡◌, ◌<◌, false}
use Rattle.mj_waits.specs.Furiten.{is_missed}
use Rattle.mj_waits.proofs.furiten_rule.furiten.Given as goal

abbrev pub invariant-loop-number : goal.invariant-loop-number
invariant-loop-number l = (k : ℕ) → k < l.number → is_missed l.facts k ≡ false
