use Rattle.std.proofs.Common.{◌≡◌, ◌<◌, ℕ, true}
use Rattle.mj_safe.specs.Inner.Blocks.{is_run_blocked}
use Rattle.mj_safe.proofs.blocks.are_runs_blocked.Given as goal

abbrev pub invariant-loop-low : goal.invariant-loop-low
invariant-loop-low l = (k : ℕ) → k < l.low → is_run_blocked l.seen l.kind k ≡ true
