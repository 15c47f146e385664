use Rattle.std.proofs.Common.{List, length, ◌≤◌, sym, subst, arith}
use Rattle.mj_deeds.specs.declared.deed.Deed.{Deed}
use Rattle.mj_umpire.proofs.Games.{kept-few}
use Rattle.mj_umpire.proofs.umpire.Umpire.deeds.Goals as goal

pub overflow_cast-result : goal.overflow_cast-result
overflow_cast-result g c =
    let few : length c.deeds.result.now ≤ 60002 = subst (λ (ds : List Deed). length ds ≤ 60002) (sym c.deeds.ensures) (kept-few _ _ c.self.inside.state c.self.invariant) in
    omega (arith, few)
