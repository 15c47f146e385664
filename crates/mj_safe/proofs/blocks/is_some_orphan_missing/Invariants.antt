use Rattle.std.proofs.Common.{◌≡◌, ◌<◌, ℕ, false}
use Rattle.mj_safe.specs.Inner.Blocks.{is_orphan_beside}
use Rattle.mj_safe.proofs.blocks.is_some_orphan_missing.Given as goal

abbrev pub invariant-loop-other : goal.invariant-loop-other
invariant-loop-other l = (k : ℕ) → k < l.other → is_orphan_beside l.seen l.kind k ≡ false
