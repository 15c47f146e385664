use Rattle.std.proofs.Common.{length}
use Rattle.mj_durable.proofs.logged.+put_back.Given as goal

abbrev pub decreases-put_back : goal.decreases-put_back
decreases-put_back g l = length l.logged.items
