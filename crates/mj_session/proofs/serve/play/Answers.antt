use Rattle.std.proofs.Common.{refl}
use Rattle.mj_session.proofs.serve.play.Goals as goal

pub loop-init : goal.loop-init
loop-init g c = (tt, tt, c.requires.idle, refl, c.requires.can, λ start x h. h)
