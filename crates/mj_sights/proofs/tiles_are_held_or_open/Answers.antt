use Rattle.mj_sights.proofs.Somewhere.{tiles_are_held_or_open}
use Rattle.mj_sights.proofs.tiles_are_held_or_open.Goals as goal

pub returns : goal.returns
returns c = tiles_are_held_or_open
