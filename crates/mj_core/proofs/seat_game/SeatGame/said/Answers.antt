use Rattle.mj_umpire.proofs.Games.{heard-form}
use Rattle.mj_core.proofs.seat_game.SeatGame.said.Goals as goal

pub hear-requires-clause-form : goal.hear-requires-clause-form
hear-requires-clause-form c = heard-form c.args.line.now c.in-Ok.answer c.in-Ok.ensures
