use Rattle.mj_history.proofs.Seated.{lines_stay}
use Rattle.mj_history.proofs.lines_stay.Goals as goal

pub returns : goal.returns
returns c = lines_stay
