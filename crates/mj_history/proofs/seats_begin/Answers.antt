use Rattle.mj_history.proofs.Moves.{seats_begin}
use Rattle.mj_history.proofs.seats_begin.Goals as goal

pub returns : goal.returns
returns c = seats_begin
