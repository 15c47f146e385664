use Rattle.std.proofs.Common.{sym, refl}
use Rattle.mj_umpire.proofs.umpire.Umpire.seat.Goals as goal

pub take_seat-requires-clause-placing : goal.take_seat-requires-clause-placing
take_seat-requires-clause-placing g c κs within = sym (rw c.in-Sat.is at c.place.ensures)

pub take_back-requires-clause-placing : goal.take_back-requires-clause-placing
take_back-requires-clause-placing g c κs within = sym (rw c.in-Back.is at c.place.ensures)

pub returns-in-Refused : goal.returns-in-Refused
returns-in-Refused g c = (sym (rw c.in-Refused.is at c.place.ensures), refl)
