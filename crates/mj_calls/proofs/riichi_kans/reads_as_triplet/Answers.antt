use Rattle.std.proofs.Common.{List, ℕ, length, get_or, ap, ◌∙◌, arith}
use Rattle.std.specs.List.{list_all}
use Rattle.mj_readings.specs.AllReadings.{readings_of}
use Rattle.mj_readings.specs.Tests.{complete, one_more}
use Rattle.mj_waits.specs.Waits.{is_wait}
use Rattle.mj_calls.specs.RiichiKans.{has_own_triplet}
use Rattle.mj_calls.proofs.RiichiKanSteps.{not_waited, waited_for, no_room}
use Rattle.mj_calls.proofs.riichi_kans.reads_as_triplet.Goals as goal
use Rattle.mj_calls.proofs.riichi_kans.reads_as_triplet.Goals.{then-not-has-via-then-not-has, then-not-has-via-else-not-has+then-get}

pub returns-then-not-has : goal.returns-then-not-has
returns-then-not-has c =
    elim c.then-not-has.branch [
      | then-not-has-via-then-not-has w ↦
          not_waited (is_wait c.args.before.now c.args.room.now (length c.args.melds.now)) c.args.waited c.args.wait c.has.result _ c.requires.waits c.requires.kind c.has.ensures w.if-not-has.true
      | then-not-has-via-else-not-has+then-get w ↦
          no_room (get_or c.args.before.now c.args.wait 0) (get_or c.args.room.now c.args.wait 0) (complete (one_more c.args.before.now c.args.wait) (length c.args.melds.now)) _
          (omega (arith, w.if-get.true, w.get.ensures.value, w.get-else-not-has.ensures.value))
    ]

pub returns : goal.returns
returns c =
    c.is_read_as_triplet.ensures
    ∙ ap (λ (counts : List ℕ). list_all (has_own_triplet c.args.kind) (readings_of counts c.args.melds.now c.args.wait)) c.with.ensures
    ∙ waited_for (is_wait c.args.before.now c.args.room.now (length c.args.melds.now)) c.args.waited c.args.wait c.has.result _ c.requires.waits c.requires.kind c.has.ensures c.if-not-has.false
