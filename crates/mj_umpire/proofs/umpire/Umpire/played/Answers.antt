use Rattle.std.proofs.Common.{◌∙◌}
use Rattle.mj_history.proofs.Fitting.{legal_deeds_fit}
use Rattle.mj_umpire.proofs.Games.{kept-deeds}
use Rattle.mj_umpire.proofs.umpire.Umpire.played.Goals as goal

pub returns-clause-deeds : goal.returns-clause-deeds
returns-clause-deeds g c =
    rw (← c.self.view_is)
    (c.deeds.ensures ∙ kept-deeds c.self.inside.setting c.self.inside.entries.items c.self.inside.state c.self.invariant)

pub returns-clause-fit : goal.returns-clause-fit
returns-clause-fit g c = rw (← c.self.view_is) (legal_deeds_fit c.self.inside.setting c.self.inside.entries.items c.self.invariant.legal)
