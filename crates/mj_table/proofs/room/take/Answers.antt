use Rattle.std.proofs.Common.{◌∙◌, arith}
use Rattle.mj_table.proofs.RoomSteps.{room_take}
use Rattle.mj_table.proofs.room.take.Goals as goal

pub returns : goal.returns
returns c = λ tiles is.
    room_take c.args.room.now tiles c.args.tile c.from-place.result c.saturating_sub.result is (c.from-place.ensures ∙ c.number.ensures.value ∙ c.kind.ensures)
    (omega (arith, c.number.ensures.within, c.number.ensures.value, c.kind.ensures)) c.saturating_sub.ensures
