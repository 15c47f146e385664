use Rattle.mj_facts.proofs.MarksKept.{no_marks}
use Rattle.mj_facts.proofs.mark_facts.no_marks.Goals as goal

pub returns : goal.returns
returns c seat = no_marks seat
