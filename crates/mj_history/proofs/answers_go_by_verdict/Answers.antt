use Rattle.mj_history.proofs.Moves.{answers_go_by_verdict}
use Rattle.mj_history.proofs.answers_go_by_verdict.Goals as goal

pub returns : goal.returns
returns c = answers_go_by_verdict
