use Rattle.mj_deeds.specs.Four.{at_seat}
use Rattle.mj_facts.proofs.EachSeat.{each_seat}
use Rattle.mj_table.specs.Inner.Kept.{Moves}
use Rattle.mj_table.proofs.held.move_tiles.Goals as goal

pub returns : goal.returns
returns c =
    each_seat (λ s now. Moves c.args.deed.now s (at_seat c.args.held.now s) now) _ _ _ _ c.move_own.ensures c.move_own-2.ensures c.move_own-3.ensures c.move_own-4.ensures
