use Rattle.mj_refereeing.proofs.PlayLaws.{closes, waits, stale}
use Rattle.mj_refereeing.proofs.arriving.expire.Goals as goal

pub returns-in-Closed-clause-does : goal.returns-in-Closed-clause-does
returns-in-Closed-clause-does c = λ seat told play. closes seat _ _ told _ _ _ play c.in-Closed.ensures.expires

pub returns-in-Stale-clause-does : goal.returns-in-Stale-clause-does
returns-in-Stale-clause-does c = λ seat told play. waits seat _ _ told _ _ _ play
    (stale c.args.core.now.game c.args.window c.args.t1 c.args.t2 c.in-Stale.ensures.expires.0) c.in-Stale.ensures.expires.1

pub returns-in-Early-clause-does : goal.returns-in-Early-clause-does
returns-in-Early-clause-does c = λ seat told play. waits seat _ _ told _ _ _ play c.in-Early.ensures.expires.1 c.in-Early.ensures.expires.2
