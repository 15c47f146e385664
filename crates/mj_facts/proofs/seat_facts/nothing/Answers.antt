use Rattle.mj_facts.proofs.SeatsKept.{nothing_kept}
use Rattle.mj_facts.proofs.seat_facts.nothing.Goals as goal

pub returns : goal.returns
returns c seat = nothing_kept seat c.none-none.result c.of.result c.no_tiles.result c.no_marks.result c.none-none.ensures c.of.ensures c.no_tiles.ensures (c.no_marks.ensures seat)
