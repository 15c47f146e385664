use Rattle.mj_facts.proofs.MarksKept.{marks_told}
use Rattle.mj_facts.proofs.mark_facts.MarkFacts.told.Goals as goal

pub returns : goal.returns
returns c deeds seat k = marks_told deeds seat c.args.self.now _ k c.is_first.ensures
