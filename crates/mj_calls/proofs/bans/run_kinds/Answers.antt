use Rattle.std.proofs.Common.{◌-◌, true, false, arith, ◌∙◌}
use Rattle.mj_calls.specs.Shapes.{is_run_of}
use Rattle.mj_calls.specs.Bans.{run_kinds}
use Rattle.mj_calls.proofs.KindsFrom.{kinds-none, kinds-more, kinds-all}
use Rattle.mj_calls.proofs.bans.run_kinds.Goals as goal

pub loop-number-init : goal.loop-number-init
loop-number-init c = c.none-kinds.ensures ∙ kinds-none (λ kind. is_run_of kind c.args.a c.args.b)

pub loop-number-preserved-then-is_run : goal.loop-number-preserved-then-is_run
loop-number-preserved-then-is_run c =
    c.with-kinds.ensures
    ∙ kinds-more (λ kind. is_run_of kind c.args.a c.args.b) true c.loop-number.kinds c.in-Some.kind c.loop-number.number (c.loop-number.number - 1)
    c.loop-number.invariant (omega (arith, c.loop-number-test.true)) c.in-Some.ensures.0 c.in-Some.ensures.1 c.if-is_run.ensures

pub loop-number-preserved : goal.loop-number-preserved
loop-number-preserved c =
    kinds-more (λ kind. is_run_of kind c.args.a c.args.b) false c.loop-number.kinds c.in-Some.kind c.loop-number.number (c.loop-number.number - 1)
    c.loop-number.invariant (omega (arith, c.loop-number-test.true)) c.in-Some.ensures.0 c.in-Some.ensures.1 c.if-is_run.ensures

pub returns : goal.returns
unfolding run_kinds
returns c = kinds-all (λ kind. is_run_of kind c.args.a c.args.b) c.loop-number.kinds c.loop-number.number c.loop-number.invariant c.loop-number-test.false
