use Rattle.mj_history.proofs.Windows.{slots_hold_the_taken}
use Rattle.mj_history.proofs.slots_hold_the_taken.Goals as goal

pub returns : goal.returns
returns c = slots_hold_the_taken
