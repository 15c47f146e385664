use Rattle.std.proofs.Common.{◌∙◌, ap, nat_eq}
use Rattle.std.proofs.lemmas.Bool.{not-true}
use Rattle.mj_readings.specs.Tests.{one_more}
use Rattle.mj_readings.specs.Inner.Sums.{singles}
use Rattle.mj_readings.proofs.Suits.{others_refuse, sums_refuse_suit}
use Rattle.mj_readings.proofs.completing_kinds.refuses_suit.Goals as goal

pub returns-then-has_other : goal.returns-then-has_other
returns-then-has_other c = λ so.
    others_refuse c.args.counts.now c.args.known.now.melds c.args.suit c.args.known.now.pairless c.has_other.result c.requires.hand.size
    (c.requires.hand.special c.if-known.false) c.requires.hand.pairless c.has_other.ensures c.if-has_other.true

pub returns : goal.returns
returns c = λ so.
    sums_refuse_suit c.args.counts.now c.args.known.now.melds c.args.suit c.at.result c.takes.result c.requires.hand.size
    (c.requires.hand.special c.if-known.false) c.requires.one c.if-suit-eq3.false c.at.ensures
    (c.takes.ensures ∙ ap (λ ns. nat_eq (singles (one_more ns c.at.result)) 0) c.numbers.ensures.value) (not-true c.takes.result so)
