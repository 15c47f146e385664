use Rattle.mj_shanten.proofs.Closed.{closed_within}
use Rattle.hand_tests.proofs.shanten.walked_closed.Goals as goal

pub new-requires : goal.new-requires
new-requires c = closed_within _ _ c.tiles_among.ensures.few c.in-Some.ensures.1
