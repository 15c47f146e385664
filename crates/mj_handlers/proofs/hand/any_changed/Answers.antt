use Rattle.std.proofs.Common.{◌<◌, length, arith}
use Rattle.mj_ticker.proofs.Idling.{idle_read}
use Rattle.mj_handlers.proofs.hand.any_changed.Goals as goal

pub has_changed-requires-after_bounds : goal.has_changed-requires-after_bounds
has_changed-requires-after_bounds g c κs within =
    let near : c.loop-t.t < length c.args.turns.now = omega (arith, c.loop-t-test.true) in
    idle_read g.T.Noted.setting c.args.turns.now c.args.passes.now c.loop-t.t _ _ near c.requires.many c.index-turns-t.is c.index-passes-t.is c.requires.idle
