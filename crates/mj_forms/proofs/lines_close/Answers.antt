use Rattle.mj_forms.proofs.Closing.{lines_close}
use Rattle.mj_forms.proofs.lines_close.Goals as goal

pub returns : goal.returns
returns c = lines_close
