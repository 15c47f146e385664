use Rattle.mj_umpire.proofs.Games.{heard-form}
use Rattle.mj_umpire.proofs.umpire.Umpire.said.Goals as goal

pub hear-requires-clause-form : goal.hear-requires-clause-form
hear-requires-clause-form g c κs within = heard-form c.args.line.now c.in-Ok.answer c.in-Ok.ensures
