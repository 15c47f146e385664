use Rattle.std.proofs.Common.{length}
use Rattle.mj_durable.proofs.resuming.+resume_all.Given as goal

abbrev pub decreases-resume_all : goal.decreases-resume_all
decreases-resume_all g l = length l.games.now.items
