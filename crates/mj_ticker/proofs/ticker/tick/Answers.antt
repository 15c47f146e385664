use Rattle.std.proofs.Common.{refl}
use Rattle.mj_ticker.proofs.Visiting.{watched_start, watched_ticks}
use Rattle.mj_ticker.proofs.ticker.tick.Goals as goal

pub loop-init : goal.loop-init
loop-init g c = (tt, tt, watched_start g.T.Seated g.T.SharedGame.lost 8 g.T.Noted.setting c.args.pass.now.number (g.C.Clock.readings c.args.clock.now) c.args.turn.now c.args.pass.now refl c.requires)

pub returns-in-Ended-clause-ticks : goal.returns-in-Ended-clause-ticks
returns-in-Ended-clause-ticks g c = watched_ticks g.T.Seated g.T.SharedGame.lost 8 g.T.Noted.setting _ _ _ _ c.args.turn.now c.loop.pass c.loop.sight c.loop.invariant.2

pub loop-preserved : goal.loop-preserved
loop-preserved g c = (tt, tt, c.watch_window-sight.ensures.visits _ _ _ _ _ c.now-now.ensures c.loop.invariant.2)
