use Rattle.mj_history.proofs.Arriving.{lawful_answers_are_taken}
use Rattle.mj_history.proofs.lawful_answers_are_taken.Goals as goal

pub returns : goal.returns
returns c = lawful_answers_are_taken
