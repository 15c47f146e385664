use Rattle.std.proofs.Common.{ℕ, ◌≡◌, ◌<◌, false}
use Rattle.mj_judge.specs.Inner.Ready.{leaves_ready}
use Rattle.mj_judge.proofs.ready.some_kind_does.Given as goal

abbrev pub invariant-loop-number : goal.invariant-loop-number
invariant-loop-number l = (k : ℕ) → k < l.number → leaves_ready l.counts l.room l.melds k ≡ false
