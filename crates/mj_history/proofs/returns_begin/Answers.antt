use Rattle.mj_history.proofs.Moves.{returns_begin}
use Rattle.mj_history.proofs.returns_begin.Goals as goal

pub returns : goal.returns
returns c = returns_begin
