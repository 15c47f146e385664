use Rattle.std.proofs.Common.{Bool, true, false, cond, ◌≡◌, refl, sym, ◌∙◌, ap, arith, inl, inr}
use Rattle.mj_tiles.specs.Terminals.{is_terminal_or_honour}
use Rattle.mj_readings.proofs.Orphans.{orphans_off, orphans_end}
use mir.Val.{bool_byte}
use Rattle.mj_readings.proofs.complete.double_of.Goals as goal
use Rattle.mj_readings.proofs.complete.double_of.Goals.{then-not-orphan-via-then-not-orphan, then-not-orphan-via-else-not-orphan+then-number-ne2}
use Rattle.mj_readings.proofs.complete.double_of.Goals.{then-not-orphan-via-else-not-orphan+else-number-ne2+then-is_some}

byte_is : (b : Bool) → bool_byte b ≡ cond b 1 0
byte_is true = refl
byte_is false = refl

pub returns-then-not-orphan : goal.returns-then-not-orphan
returns-then-not-orphan c =
    let orphan = c.is_terminal_or_honour-orphan.ensures ∙ ap is_terminal_or_honour c.at-kind.ensures in
    sym (orphans_off _ _ _ c.loop-place.invariant (omega (arith, c.loop-place-test.true, c.requires))
    (λ e. c.if-number-orphan.false (e ∙ ap (λ (b : Bool). cond b 1 0) (sym orphan) ∙ sym (byte_is c.is_terminal_or_honour-orphan.result)))
    (elim c.then-not-orphan.branch [
      | then-not-orphan-via-then-not-orphan w ↦ inl (sym orphan ∙ w.if-not-orphan.true)
      | then-not-orphan-via-else-not-orphan+then-number-ne2 w ↦ inr (inl (λ e. w.if-number-ne2.true e))
      | then-not-orphan-via-else-not-orphan+else-number-ne2+then-is_some w ↦ inr (inr (sym w.is_some.ensures ∙ w.if-is_some.true))
    ]))

pub returns : goal.returns
returns c = orphans_end _ _ _ c.requires (omega (arith, c.loop-place-test.false, c.loop-place.auto.place-end, c.requires)) c.loop-place.invariant
