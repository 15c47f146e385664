use Rattle.std.proofs.Common.{arith}
use Rattle.mj_yaku.proofs.Plain.{ends_more, honours_more, none_outside}
use Rattle.mj_yaku.proofs.some_yaku.has_outside.Goals as goal

pub loop-suit-init : goal.loop-suit-init
loop-suit-init c = λ s inside. absurd (omega (arith, inside))

pub loop-suit-preserved : goal.loop-suit-preserved
loop-suit-preserved c = ends_more c.args.numbers.now c.loop-suit.suit c.has_end.result c.loop-suit.invariant c.has_end.ensures c.if-has_end.false

pub loop-honour-init : goal.loop-honour-init
loop-honour-init c = record {
  suits = λ s inside. c.loop-suit.invariant s (omega (arith, inside, c.loop-suit-test.false));
  honours = λ h inside. absurd (omega (arith, inside));
}

pub loop-honour-preserved : goal.loop-honour-preserved
loop-honour-preserved c = record {
  suits = c.loop-honour.invariant.suits;
  honours = honours_more c.args.numbers.now c.loop-honour.honour c.loop-honour.invariant.honours (omega arith);
}

pub returns : goal.returns
returns c = λ no. none_outside c.args.numbers.now c.loop-honour.invariant.suits (λ h inside. c.loop-honour.invariant.honours h (omega (arith, inside, c.loop-honour-test.false)))
