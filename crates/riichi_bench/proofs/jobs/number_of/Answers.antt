use Rattle.std.proofs.Common.{sym, subst}
use Rattle.mj_shanten.specs.Room.{IsHand}
use Rattle.mj_shanten.specs.Walked.{Tiles}
use Rattle.mj_shanten.proofs.Closed.{closed_within, closed_hand}
use Rattle.riichi_bench.proofs.jobs.number_of.Goals as goal

pub new-requires : goal.new-requires
new-requires c = closed_within _ _ c.tiles_among.ensures.few (c.in-Some-Some.ensures'.1)

pub number-requires : goal.number-requires
number-requires c = subst (λ (t : Tiles). IsHand t.counts t.room 0) (sym c.new.ensures)
    (closed_hand _ _ c.tiles_among.result c.tiles_among.ensures.total c.if-tiles_among-ne13.false c.tiles_among.ensures.few (c.in-Some-Some.ensures'.1))
