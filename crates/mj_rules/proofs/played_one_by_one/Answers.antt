use Rattle.mj_rules.proofs.Playing.{played_more, played_less}
use Rattle.mj_rules.proofs.played_one_by_one.Goals as goal

pub returns : goal.returns
returns c = record { more = played_more; less = played_less }
