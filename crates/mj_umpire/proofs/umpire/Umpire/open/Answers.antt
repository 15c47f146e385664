use Rattle.std.proofs.Common.{◌≤◌, arith}
use Rattle.mj_umpire.proofs.Games.{kept-few}
use Rattle.mj_umpire.proofs.Readers.{window-few}
use Rattle.mj_umpire.proofs.umpire.Umpire.open.Goals as goal

pub overflow_cast-result : goal.overflow_cast-result
overflow_cast-result g c =
    let few : c.in-Some.window ≤ 60002 = window-few _ c.in-Some.window c.in-Some.ensures (kept-few _ _ c.self.inside.state c.self.invariant) in
    omega (arith, few)
