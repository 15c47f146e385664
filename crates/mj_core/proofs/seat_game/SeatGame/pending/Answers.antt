use Rattle.mj_umpire.proofs.Readers.{adds-none, adds-same}
use Rattle.mj_core.proofs.seat_game.SeatGame.pending.Goals as goal

pub returns-in-Some-clause-ok : goal.returns-in-Some-clause-ok
returns-in-Some-clause-ok c = adds-same _ _ _ _ _ (rw (← c.self.view_is) c.in-Some.ensures.1) c.push_line.ensures.ok

pub returns-in-None-clause-ok : goal.returns-in-None-clause-ok
returns-in-None-clause-ok c = rw (← c.self.view_is) (adds-none _ _ c.in-None.ensures)
