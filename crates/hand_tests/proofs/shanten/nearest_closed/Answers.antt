use Rattle.std.proofs.Common.{arith}
use Rattle.mj_shanten.proofs.Closed.{closed_hand}
use Rattle.hand_tests.proofs.shanten.nearest_closed.Goals as goal

pub shanten-requires : goal.shanten-requires
shanten-requires c = closed_hand _ _ c.tiles_among.result c.tiles_among.ensures.total (omega arith) c.tiles_among.ensures.few c.in-Some.ensures.1

pub returns : goal.returns
returns c = record {
  room = c.in-Some.room;
  melds = 0;
  is_hand = closed_hand _ _ c.tiles_among.result c.tiles_among.ensures.total (omega arith) c.tiles_among.ensures.few c.in-Some.ensures.1;
  is_shanten = c.shanten.ensures.nearest;
}
