use Rattle.mj_umpire.proofs.umpire.Umpire.entries.Goals as goal

pub returns-clause-legal : goal.returns-clause-legal
returns-clause-legal g c = rw (← c.self.view_is) c.self.invariant.legal
