use Rattle.mj_history.proofs.Arriving.{new_names_are_seated}
use Rattle.mj_history.proofs.new_names_are_seated.Goals as goal

pub returns : goal.returns
returns c = new_names_are_seated
