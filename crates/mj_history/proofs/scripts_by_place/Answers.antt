use Rattle.mj_history.proofs.ByPlace.{scripts_by_place}
use Rattle.mj_history.proofs.scripts_by_place.Goals as goal

pub returns : goal.returns
returns c = scripts_by_place
