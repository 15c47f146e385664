use Rattle.mj_forms.proofs.SeenLine.{line_of_mask}
use Rattle.mj_forms.proofs.lines_are_of_masks.Goals as goal

pub returns : goal.returns
returns c = line_of_mask
