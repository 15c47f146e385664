use Rattle.std.proofs.Common.{◌+◌, ◌∙◌}
use Rattle.mj_tiles.specs.Kinds.{kinds_that}
use Rattle.mj_waits.specs.Waits.{is_wait}
use Rattle.mj_calls.specs.RiichiKans.{fewer}
use Rattle.mj_calls.proofs.RiichiKanSteps.{same_answers}
use Rattle.mj_calls.proofs.riichi_kans.keeps_waits.Goals as goal

pub returns : goal.returns
returns c =
    same_answers (is_wait c.args.before.now c.args.room.now c.args.melds)
    (is_wait (fewer c.args.before.now c.args.kind 3) (fewer c.args.room.now c.args.kind 4) (c.args.melds + 1)) c.eq.result c.waits.result c.args.waited
    (c.waits.ensures.value ∙ (λ i. kinds_that (is_wait (c.fewer.ensures i) (c.fewer-2.ensures i) (c.args.melds + 1)))) c.requires.waits c.eq.ensures
