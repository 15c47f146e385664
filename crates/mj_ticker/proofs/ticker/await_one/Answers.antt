use Rattle.std.proofs.Common.{◌<◌, length, arith}
use Rattle.mj_ticker.proofs.Idling.{idle_read}
use Rattle.mj_ticker.proofs.ticker.await_one.Goals as goal

pub await_change-requires-after_bounds : goal.await_change-requires-after_bounds
await_change-requires-after_bounds g c κs within =
    let near : 0 < length c.args.turns.now = omega (arith, c.if-turns-eq1.true) in
    idle_read g.T.Noted.setting c.args.turns.now c.args.passes.now 0 _ _ near c.requires.many.0 c.index-turns-0.is c.index-passes-0.is c.requires.idle
