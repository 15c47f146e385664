use Rattle.mj_forms.proofs.Written.{lists_written}
use Rattle.mj_forms.proofs.lists_are_written.Goals as goal

pub returns : goal.returns
returns c = lists_written
