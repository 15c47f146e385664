use Rattle.std.proofs.Common.{refl}
use Rattle.mj_umpire.proofs.Laws.{named-by}
use Rattle.mj_umpire.proofs.Readers.{no-join}
use Rattle.mj_umpire.proofs.umpire.Umpire.sit.Goals as goal

pub seat-requires-after_bounds : goal.seat-requires-after_bounds
seat-requires-after_bounds g c κs within = named-by c.args.line.now c.in-Ok-Some.join (rw c.in-Ok-Some.field-0-is at c.in-Ok-Some.ensures)

pub returns-in-Ok-None : goal.returns-in-Ok-None
returns-in-Ok-None g c = (no-join _ c.args.line.now (rw c.in-Ok-None.field-0-is at c.in-Ok-None.ensures), refl)
