use Rattle.std.proofs.Common.{◌∙◌}
use Rattle.std.specs.Prelude.{None}
use Rattle.mj_umpire.proofs.Games.{reads-some, reads-none}
use Rattle.mj_umpire.specs.declared.chair.Chair.{Chair as Player}
use Rattle.mj_umpire.proofs.umpire.Umpire.author.Goals as goal

pub returns-in-Some : goal.returns-in-Some
returns-in-Some g c = rw (← c.self.view_is) (c.author.ensures ∙ reads-some (λ (p : Player). p.author) None _ _ c.self.inside.state c.args.seat c.in-Some.held.now c.self.invariant c.in-Some.ensures)

pub returns-in-None : goal.returns-in-None
returns-in-None g c = rw (← c.self.view_is) (reads-none (λ (p : Player). p.author) None _ _ c.self.inside.state c.args.seat c.self.invariant c.in-None.ensures)
