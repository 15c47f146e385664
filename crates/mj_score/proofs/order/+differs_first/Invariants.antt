use Rattle.std.proofs.Common.{length}
use Rattle.mj_score.proofs.order.+differs_first.Given as goal

abbrev pub decreases-differs_first : goal.decreases-differs_first
decreases-differs_first l = length l.rows.now
