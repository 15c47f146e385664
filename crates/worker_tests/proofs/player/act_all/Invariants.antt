use Rattle.turn_lock.specs.Turns.{IsIdle}
use Rattle.worker_tests.proofs.player.act_all.Given as goal

abbrev pub invariant-loop-step : goal.invariant-loop-step
invariant-loop-step g l = IsIdle (λ r. g.G.Seated.setting r.game) l.turn l.pass
