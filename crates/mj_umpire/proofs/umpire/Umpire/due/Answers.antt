use Rattle.std.proofs.Common.{◌∙◌, ◌≤◌, arith}
use Rattle.mj_umpire.proofs.Games.{reads-some, reads-none, due-small}
use Rattle.mj_umpire.specs.declared.chair.Chair.{Chair as Player}
use Rattle.mj_umpire.proofs.umpire.Umpire.due.Goals as goal

pub overflow_cast-result : goal.overflow_cast-result
overflow_cast-result g c =
    let small : c.in-Some.held.now.due ≤ 60002 = due-small _ _ c.self.inside.state c.args.seat c.in-Some.held.now c.self.invariant c.in-Some.ensures in
    omega (arith, small, c.due.ensures)

pub returns-in-Some : goal.returns-in-Some
returns-in-Some g c = rw (← c.self.view_is) (c.due.ensures ∙ reads-some (λ (p : Player). p.due) 0 _ _ c.self.inside.state c.args.seat c.in-Some.held.now c.self.invariant c.in-Some.ensures)

pub returns-in-None : goal.returns-in-None
returns-in-None g c = rw (← c.self.view_is) (reads-none (λ (p : Player). p.due) 0 _ _ c.self.inside.state c.args.seat c.self.invariant c.in-None.ensures)
