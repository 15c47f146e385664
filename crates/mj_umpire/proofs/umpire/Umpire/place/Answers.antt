use Rattle.std.proofs.Common.{sym, ◌∙◌}
use Rattle.mj_umpire.proofs.Games.{placed-over, placed-open}
use Rattle.mj_umpire.proofs.umpire.Umpire.place.Goals as goal

pub returns-then-is_over : goal.returns-then-is_over
returns-then-is_over g c = rw (← c.self.view_is) (placed-over _ _ c.self.inside.state c.args.join.now c.self.invariant (sym c.is_over.ensures ∙ c.if-is_over.true))

pub returns : goal.returns
returns g c =
    rw (← c.self.view_is) (placed-open _ _ c.self.inside.state c.args.join.now _ c.self.invariant (sym c.is_over.ensures ∙ c.if-is_over.false) c.place.ensures)
