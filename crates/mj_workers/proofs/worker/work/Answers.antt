use Rattle.std.proofs.Common.{rules}
use Rattle.mj_workers.proofs.Staffing.{watched_read}
use Rattle.mj_workers.proofs.worker.work.Goals as goal

pub returns-clause-ticks : goal.returns-clause-ticks
returns-clause-ticks g c =
    watched_read g.T.Seated g.T.SharedGame.lost c.args.handlers g.T.Noted.setting c.args.turns.now.items c.args.handlers (λ t. g.T.Seated.history t.opening)
    (g.C.Clock.readings c.args.clock.now) (g.C.Clock.readings c.join-back.result.1.1.now) _ c.join-back.result.1.0.passes.items c.join-back.result.1.0.sights.items
    (search rules) c.join-back.ensures.second.1
