use Rattle.std.proofs.Common.{sym, ◌∙◌, arith}
use Rattle.mj_tiles.proofs.EachKind.{all_kinds-pass, all_kinds-fail}
use Rattle.mj_safe.specs.Inner.Blocks.{is_run_blocked}
use Rattle.mj_safe.proofs.blocks.are_runs_blocked.Goals as goal

pub returns-then-not-is_run_blocked : goal.returns-then-not-is_run_blocked
returns-then-not-is_run_blocked c =
    sym (all_kinds-fail (is_run_blocked c.args.seen.now c.args.kind) c.loop-low.low c.loop-low-test.true (sym c.is_run_blocked.ensures ∙ c.if-not-is_run_blocked.true))

pub returns : goal.returns
returns c = sym (all_kinds-pass (is_run_blocked c.args.seen.now c.args.kind) (λ k within. c.loop-low.invariant k (omega (arith, within, c.loop-low-test.false))))
