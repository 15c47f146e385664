use Rattle.std.proofs.Common.{ℕ, ◌≤◌, subst, sym, arith}
use Rattle.mj_embedded.specs.Turns.{Stays}
use Rattle.mj_embedded.specs.Inner.Looks.{CanElse}
use Rattle.mj_embedded.proofs.Passing.{goes_on, looked_on, next_low, still_few, rests}
use Rattle.mj_embedded.proofs.turns.pass_on.Goals as goal

pub loop-init : goal.loop-init
loop-init c = (omega arith, (omega arith, (Stays, tt)))

pub loop-preserved : goal.loop-preserved
loop-preserved c =
    let now = c.loop.invariant in
    let after = looked_on c.loop.seat c.loop.still _ c.loop.game c.look_at.new.game c.in-Ok.number now.0 now.1.1.0 now.1.1.1 c.in-Ok.ensures in (
      subst (λ (seat : ℕ). seat ≤ 3) (sym c.next_seat-seat.ensures) (next_low c.loop.seat now.0),
      (
        still_few c.loop.seat c.loop.still c.loop.game c.look_at.new.game c.in-Ok.number now.1.0 c.in-Ok.ensures c.if-number-eq4.false,
        (after.0, subst (λ (seat : ℕ). CanElse c.in-Ok.number seat c.look_at.new.game) (sym c.next_seat-seat.ensures) after.1),
      ),
    )

pub returns-then-number-eq4 : goal.returns-then-number-eq4
returns-then-number-eq4 c =
    let now = c.loop.invariant in
    rests c.loop.seat c.loop.still _ c.loop.game c.look_at.new.game c.in-Ok.number now.0 now.1.1.0 now.1.1.1 c.in-Ok.ensures c.if-number-eq4.true

pub returns-in-Err : goal.returns-in-Err
returns-in-Err c = goes_on _ c.loop.game c.look_at.new.game c.in-Err.answer c.loop.invariant.1.1.0 c.in-Err.ensures
