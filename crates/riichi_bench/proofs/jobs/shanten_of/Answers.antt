use Rattle.mj_shanten.proofs.Closed.{closed_hand}
use Rattle.riichi_bench.proofs.jobs.shanten_of.Goals as goal

pub shanten-nearest-requires : goal.shanten-nearest-requires
shanten-nearest-requires c = closed_hand _ _ c.tiles_among.result c.tiles_among.ensures.total c.if-tiles_among-ne13.false c.tiles_among.ensures.few (c.in-Some-Some.ensures'.1)
