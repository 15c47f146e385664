use Rattle.std.proofs.Common.{◌∙◌}
use Rattle.mj_tiles.proofs.CountSteps.{counts_none, counts_over, counts_step, counts_all}
use Rattle.mj_tiles.proofs.counts.counts_of.Goals as goal

pub loop-tile-init : goal.loop-tile-init
loop-tile-init c = counts_none

pub returns-then-numbers-place-eq4 : goal.returns-then-numbers-place-eq4
returns-then-numbers-place-eq4 c =
    counts_over _ _ _ c.tile-item.result _ c.loop-tile-test.true c.loop-tile.invariant.0 c.tile-item.is
    (c.number-place.ensures.value ∙ c.kind.ensures) c.number-place.ensures.within c.if-numbers-place-eq4.true

pub loop-tile-preserved : goal.loop-tile-preserved
loop-tile-preserved c =
    counts_step _ _ _ c.tile-item.result _ c.loop-tile-test.true c.loop-tile.invariant.0 c.loop-tile.invariant.1 c.tile-item.is
    (c.number-place.ensures.value ∙ c.kind.ensures) c.number-place.ensures.within c.if-numbers-place-eq4.false

pub invariant_of-result : goal.invariant_of-result
invariant_of-result c = counts_all _ _ c.loop-tile.invariant.0 c.loop-tile.invariant.1
