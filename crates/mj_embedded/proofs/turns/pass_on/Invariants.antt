use Rattle.std.specs.Prelude.{◌≤◌}
use Rattle.mj_embedded.specs.Turns.{HavePassed}
use Rattle.mj_embedded.specs.Inner.Looks.{CanElse}
use Rattle.mj_embedded.proofs.turns.pass_on.Given as goal

abbrev pub invariant-loop : goal.invariant-loop
invariant-loop l = (l.seat ≤ 3) × ((l.still ≤ 3) × (HavePassed l.fn.game l.game × CanElse l.still l.seat l.game))
