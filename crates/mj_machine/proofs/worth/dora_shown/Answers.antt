use Rattle.std.proofs.Common.{◌<◌, subst}
use Rattle.mj_deeds.specs.Facts.{indicators}
use Rattle.mj_deeds.specs.Hand.{hand}
use Rattle.mj_machine.proofs.Indicators.{dora_step}
use Rattle.mj_machine.proofs.worth.dora_shown.Goals as goal

pub loop-place-preserved : goal.loop-place-preserved
loop-place-preserved c =
    dora_step c.args.tiles.now (indicators (hand c.args.table.now.deeds)) c.loop-place.place c.loop-place.dora c.dora_at-dora.result
    (subst (λ n. c.loop-place.place < n) c.shown-place-end.ensures c.loop-place-test.true) c.loop-place.invariant c.dora_at-dora.ensures.value c.dora_at-dora.ensures.within
