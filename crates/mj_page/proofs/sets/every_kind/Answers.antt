use Rattle.std.proofs.Common.{true, refl, arith}
use Rattle.mj_page.proofs.Bits.{none_gathered, one_more}
use Rattle.mj_page.proofs.sets.every_kind.Goals as goal

pub loop-number-init : goal.loop-number-init
loop-number-init c = none_gathered _ _ c.none-kinds.ensures

pub loop-number-preserved : goal.loop-number-preserved
loop-number-preserved c = one_more _ _ _ _ (λ kind. true) c.loop-number.invariant c.at.ensures c.with-kinds.ensures refl

pub returns : goal.returns
returns c = λ kind low. c.loop-number.invariant.below kind (omega (arith, low, c.loop-number-test.false))
