use Rattle.std.proofs.Common.{refl}
use Rattle.mj_embedded.proofs.Passing.{one_passes, one_stops}
use Rattle.mj_embedded.proofs.turns.pass.Goals as goal

pub returns-then-answer-ne-LATE : goal.returns-then-answer-ne-LATE
returns-then-answer-ne-LATE c =
    one_stops _ c.give-answer.new.game c.args.seat c.give-answer.result c.requires
    (record { rule = c.give-answer.new.rule; gives = c.give-answer.ensures }) c.if-answer-ne-DONE.true c.if-answer-ne-LATE.true

pub returns : goal.returns
returns c = (refl, one_passes _ c.give-answer.new.game c.args.seat c.give-answer.result c.requires (record { rule = c.give-answer.new.rule; gives = c.give-answer.ensures }))
