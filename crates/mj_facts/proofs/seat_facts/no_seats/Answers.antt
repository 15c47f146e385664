use Rattle.std.proofs.Common.{[]}
use Rattle.mj_facts.proofs.EachSeat.{each_seat}
use Rattle.mj_facts.specs.Seats.{Keeps}
use Rattle.mj_facts.proofs.seat_facts.no_seats.Goals as goal

pub returns : goal.returns
returns c =
    each_seat (λ seat facts. Keeps [] seat facts) c.nothing.result c.nothing-2.result c.nothing-3.result c.nothing-4.result (c.nothing.ensures 0) (c.nothing-2.ensures 1) (c.nothing-3.ensures 2)
    (c.nothing-4.ensures 3)
