use Rattle.mj_umpire.proofs.Foreseen.{foreseen-place, foreseen-none}
use Rattle.mj_umpire.proofs.umpire.Umpire.would_sit.Goals as goal

pub returns-in-Ok-Some : goal.returns-in-Ok-Some
returns-in-Ok-Some g c =
    rw c.sit_answer.ensures (foreseen-place _ _ c.args.line.now c.in-Ok-Some.join (rw c.in-Ok-Some.field-0-is at c.in-Ok-Some.ensures) c.place.ensures)

pub returns-in-Ok-None : goal.returns-in-Ok-None
returns-in-Ok-None g c = foreseen-none _ c.args.line.now (rw c.in-Ok-None.field-0-is at c.in-Ok-None.ensures)
