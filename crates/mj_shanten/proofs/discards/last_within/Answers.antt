use Rattle.std.proofs.Common.{arith}
use Rattle.mj_shanten.proofs.BestDiscard.{more_from_last, more_from_here, when_true, when_false}
use Rattle.mj_shanten.proofs.discards.last_within.Goals as goal

pub loop-number-init : goal.loop-number-init
loop-number-init c = (omega arith, more_from_last _ _ _ _ _ _ (omega arith))

pub loop-number-preserved : goal.loop-number-preserved
loop-number-preserved c = (
  omega arith,
  more_from_here _ _ _ _ _ _ _ _ (omega arith) (omega arith) c.at-kind.ensures (when_false _ _ _ c.is_within.ensures c.if-is_within.false) c.loop-number.invariant.1,
)

pub returns-then-is_within : goal.returns-then-is_within
returns-then-is_within c =
    let found = when_true _ _ _ c.is_within.ensures c.if-is_within.true in
    (found.0, found.1, λ other later discard. c.loop-number.invariant.1 other (omega (arith, later, c.at-kind.ensures)) discard)

pub returns : goal.returns
returns c = λ kind discard. c.loop-number.invariant.1 kind (omega arith) discard
