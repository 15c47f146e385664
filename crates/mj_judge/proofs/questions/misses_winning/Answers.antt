use Rattle.std.specs.Prelude.{option_copied}
use Rattle.mj_judge.proofs.Wins.{drawn_missed}
use Rattle.mj_judge.proofs.questions.misses_winning.Goals as goal

pub returns-else-target-seat : goal.returns-else-target-seat
returns-else-target-seat c =
    drawn_missed c.args.table.now.deeds c.args.seat c.args.target c.in-Some-Draw.field-0-0 c.in-Some-Draw.field-0-1 c.in-Some-Draw.field-0-2
    c.in-Some-Draw.field-0.now (option_copied c.args.tile) c.misses_drawn.result
    c.in-Some-Draw.ensures c.in-Some-Draw.field-0-is c.if-target-seat.false c.misses_drawn.ensures
