use Rattle.std.proofs.Common.{subst}
use Rattle.mj_judge.specs.Inner.Alone.{AreThree, AreTwo}
use Rattle.mj_judge.proofs.Alone.{scattered}
use Rattle.mj_judge.proofs.scattered.is_scattered.Goals as goal

pub returns-then-are_three_alone : goal.returns-then-are_three_alone
returns-then-are_three_alone c = λ so given kind low is other inside melds.
    scattered c.args.counts.now given melds kind other c.numbers-numbers.ensures.size is
    (subst AreThree c.numbers-numbers.ensures.value (c.are_three_alone.ensures c.if-are_three_alone.true))
    (subst AreTwo c.numbers-numbers.ensures.value (c.are_two_inner.ensures so))
