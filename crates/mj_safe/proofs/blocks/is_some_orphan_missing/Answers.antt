use Rattle.std.proofs.Common.{sym, ◌∙◌, arith}
use Rattle.mj_tiles.proofs.EachKind.{any_kind, no_kind}
use Rattle.mj_safe.specs.Inner.Blocks.{is_orphan_beside}
use Rattle.mj_safe.proofs.blocks.is_some_orphan_missing.Goals as goal

pub returns-then-is_orphan_beside : goal.returns-then-is_orphan_beside
returns-then-is_orphan_beside c =
    sym (any_kind (is_orphan_beside c.args.seen.now c.args.kind) c.loop-other.other c.loop-other-test.true (sym c.is_orphan_beside.ensures ∙ c.if-is_orphan_beside.true))

pub returns : goal.returns
returns c = sym (no_kind (is_orphan_beside c.args.seen.now c.args.kind) (λ k within. c.loop-other.invariant k (omega (arith, within, c.loop-other-test.false))))
