use Rattle.mj_history.proofs.Arriving.{one_deed_an_entry}
use Rattle.mj_history.proofs.one_deed_an_entry.Goals as goal

pub returns : goal.returns
returns c = one_deed_an_entry
