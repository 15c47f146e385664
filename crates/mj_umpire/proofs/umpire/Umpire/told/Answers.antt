use Rattle.std.proofs.Common.{◌∙◌}
use Rattle.mj_umpire.proofs.Games.{kept-deeds}
use Rattle.mj_umpire.proofs.umpire.Umpire.told.Goals as goal

pub returns : goal.returns
returns g c =
    rw (← c.self.view_is)
    (c.told.ensures
    ∙ (λ i. record { rules = c.self.invariant.rules i; deeds = kept-deeds c.self.inside.setting c.self.inside.entries.items c.self.inside.state c.self.invariant i }))
