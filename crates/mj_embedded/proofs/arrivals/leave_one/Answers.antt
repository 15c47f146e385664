use Rattle.std.proofs.Common.{refl, sym}
use Rattle.mj_embedded.specs.Calls.{Gone}
use Rattle.mj_embedded.proofs.arrivals.leave_one.Goals as goal

pub returns-in-Gone : goal.returns-in-Gone
returns-in-Gone c = Gone refl c.in-Some.author (sym c.in-Some.ensures) c.in-Gone.ensures
