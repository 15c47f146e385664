use Rattle.mj_embedded.proofs.Passing.{not_listed}
use Rattle.mj_embedded.proofs.turns.look_at.Goals as goal

pub returns-in-Err : goal.returns-in-Err
returns-in-Err c = not_listed _ c.can_only_pass.new.game c.in-Err.ensures.game
