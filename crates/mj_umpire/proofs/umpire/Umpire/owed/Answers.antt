use Rattle.std.proofs.Common.{◌≤◌, sym, arith, ap, ◌∙◌}
use Rattle.mj_umpire.specs.Calls.{line_of}
use Rattle.mj_umpire.proofs.Games.{game, pending-some, pending-none, held-small, due-small}
use Rattle.mj_umpire.proofs.Readers.{pending-away, pending-told}
use Rattle.mj_umpire.proofs.umpire.Umpire.owed.Goals as goal

pub returns-in_default : goal.returns-in_default
returns-in_default g c = rw (← c.self.view_is) (pending-none _ _ c.self.inside.state c.args.seat c.self.invariant c.in_default.ensures)

pub returns-then-not-is_present : goal.returns-then-not-is_present
returns-then-not-is_present g c =
    rw (← c.self.view_is) (pending-away _ _ c.self.inside.state c.args.seat c.in-Some.held.now c.self.invariant c.in-Some.ensures (sym c.if-not-is_present.ensures))

pub returns-then-not-is_fresh : goal.returns-then-not-is_fresh
returns-then-not-is_fresh g c =
    rw (← c.self.view_is) (pending-told _ _ c.self.inside.state c.args.seat c.in-Some.held.now c.self.invariant c.in-Some.ensures (sym c.if-not-is_fresh.ensures))

pub overflow_cast-result : goal.overflow_cast-result
overflow_cast-result g c =
    let small : c.in-Some.held.now.due ≤ 60002 = due-small _ _ c.self.inside.state c.args.seat c.in-Some.held.now c.self.invariant c.in-Some.ensures in
    omega (arith, small, c.due.ensures)

pub returns : goal.returns
returns g c = (
  held-small _ _ c.self.inside.state c.args.seat c.in-Some.held.now c.self.invariant c.in-Some.ensures,
  rw (← c.self.view_is)
      (pending-some _ _ c.self.inside.state c.args.seat c.in-Some.held.now c.self.invariant c.in-Some.ensures (sym c.if-not-is_present.ensures) (sym c.if-not-is_fresh.ensures)
      ∙ ap (line_of (game c.self.inside.setting c.self.inside.entries.items) c.args.seat) (sym c.due.ensures)),
)
