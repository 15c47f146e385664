use Rattle.mj_umpire.proofs.Readers.{adds-none, adds-same}
use Rattle.mj_core.proofs.game.Core.pending.Goals as goal

pub returns-in-Some-clause-ok : goal.returns-in-Some-clause-ok
returns-in-Some-clause-ok c = rw (← c.self.view_is) (adds-same _ _ _ _ _ c.in-Some.ensures.1 (rw (← c.self.view_is) at c.push_line.ensures.ok))

pub returns-in-None-clause-ok : goal.returns-in-None-clause-ok
returns-in-None-clause-ok c = rw (← c.self.view_is) (adds-none _ _ c.in-None.ensures)
