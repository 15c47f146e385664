use Rattle.turn_lock.specs.Turns.{IsIdle}
use Rattle.worker_tests.proofs.player.act_often.Given as goal

abbrev pub invariant-loop : goal.invariant-loop
invariant-loop g l = IsIdle (λ r. g.G.Seated.setting r.game) l.turn l.pass
