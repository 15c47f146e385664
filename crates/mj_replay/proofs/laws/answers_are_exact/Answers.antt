use Rattle.mj_replay.proofs.ExactLaws.{answers_are_exact}
use Rattle.mj_replay.proofs.laws.answers_are_exact.Goals as goal

pub returns : goal.returns
returns c = answers_are_exact
