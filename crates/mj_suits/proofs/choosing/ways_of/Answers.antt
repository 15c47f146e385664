use Rattle.std.proofs.Common.{refl, arith}
use Rattle.mj_suits.proofs.Choices.{alone_answer, pair_ways}
use Rattle.mj_suits.proofs.choosing.ways_of.Goals as goal

pub returns-then-tiles-lt2 : goal.returns-then-tiles-lt2
returns-then-tiles-lt2 c = alone_answer _ _ _ _ _ _ _ c.requires.few refl (λ two. absurd (omega arith)) c.requires.plan c.way_of.ensures

pub returns-then-not-leaves_as_many : goal.returns-then-not-leaves_as_many
returns-then-not-leaves_as_many c = alone_answer _ _ _ _ _ _ _ c.requires.few refl (λ two. c.if-not-leaves_as_many.ensures) c.requires.plan c.way_of-then-not-leaves_as_many.ensures

pub returns-then-not-leaves_as_many-2 : goal.returns-then-not-leaves_as_many-2
returns-then-not-leaves_as_many-2 c = pair_ways _ _ _ _ _ (omega arith) c.requires.few c.if-not-leaves_as_many-2.ensures c.requires.plan c.if-not-leaves_as_many.ensures
