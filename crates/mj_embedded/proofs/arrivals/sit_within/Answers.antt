use Rattle.std.proofs.Common.{refl}
use Rattle.mj_embedded.specs.Calls.{Sat, Back, NotSeated}
use Rattle.mj_embedded.proofs.arrivals.sit_within.Goals as goal

pub returns-in-Sat : goal.returns-in-Sat
returns-in-Sat c = Sat refl c.in-Sat.taken c.from.ensures c.in-Sat.ensures

pub returns-in-Back : goal.returns-in-Back
returns-in-Back c = Back refl c.in-Back.taken c.from-in-Back.ensures c.in-Back.ensures

pub returns-in-Refused : goal.returns-in-Refused
returns-in-Refused c = NotSeated c.in-Refused.why c.not_seated.ensures refl c.in-Refused.ensures
