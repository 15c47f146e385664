use Rattle.std.proofs.Common.{refl, inl, inr}
use Rattle.mj_embedded.specs.Turns.{NotPlayed, Played}
use Rattle.mj_embedded.proofs.turns.play.Goals.{else-chosen-ne-DONE-via-then-chosen-ne-DONE+else-chosen-ne-LATE, else-chosen-ne-DONE-via-else-chosen-ne-DONE}
use Rattle.mj_embedded.proofs.turns.play.Goals as goal

pub returns-then-chosen-ne-LATE : goal.returns-then-chosen-ne-LATE
returns-then-chosen-ne-LATE c = NotPlayed c.choose-chosen.ensures refl c.if-chosen-ne-DONE.true c.if-chosen-ne-LATE.true

pub returns : goal.returns
returns c = Played c.choose-chosen.new.game c.choose-chosen.result c.choose-chosen.ensures
    (elim c.else-chosen-ne-DONE.branch
    [ else-chosen-ne-DONE-via-then-chosen-ne-DONE+else-chosen-ne-LATE w ↦ inr w.if-chosen-ne-LATE.false | else-chosen-ne-DONE-via-else-chosen-ne-DONE w ↦ inl w.if-chosen-ne-DONE.false ])
    c.go_on.ensures
