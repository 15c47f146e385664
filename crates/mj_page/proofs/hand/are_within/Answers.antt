use Rattle.std.proofs.Common.{arith, sym, ◌∙◌}
use Rattle.mj_tiles.proofs.EachKind.{all_kinds-pass, all_kinds-fail}
use Rattle.mj_page.specs.Hands.{is_few}
use Rattle.mj_page.proofs.hand.are_within.Goals as goal

pub returns-then-not-is_few : goal.returns-then-not-is_few
returns-then-not-is_few c =
    sym (all_kinds-fail (is_few c.args.held.now c.args.melds.now) c.loop-kind.kind (omega (arith, c.loop-kind-test.true)) (sym c.is_few.ensures ∙ c.if-not-is_few.true))

pub returns : goal.returns
returns c = sym (all_kinds-pass (is_few c.args.held.now c.args.melds.now) (λ k low. c.loop-kind.invariant k (omega (arith, low, c.loop-kind-test.false))))
