use Rattle.std.proofs.Common.{◌*◌, ◌+◌, arith, ◌∙◌}
use Rattle.mj_readings.specs.Completing.{is_completing}
use Rattle.mj_readings.proofs.KindsBelow.{kinds_below-stays, gathered-yes, gathered-no}
use Rattle.mj_readings.proofs.completing_kinds.with_suit.Goals as goal
use Rattle.mj_readings.proofs.completing_kinds.with_suit.Goals.{then-completes_with, else-completes_with}

pub returns-then-refuses_suit : goal.returns-then-refuses_suit
returns-then-refuses_suit c =
    c.requires.below
    ∙ kinds_below-stays (is_completing c.args.counts.now c.args.known.now.melds) (9 * c.args.suit) (9 * c.args.suit + 9) (omega arith)
    (c.refuses_suit.ensures c.if-refuses_suit.true)

pub loop-number-preserved : goal.loop-number-preserved
loop-number-preserved c =
    let test = is_completing c.args.counts.now c.args.known.now.melds in
    elim c.if-completes_with.branch [
      | then-completes_with w ↦
          gathered-yes test c.loop-number.kinds c.if-completes_with.kinds c.loop-number.number c.at-kind.result c.completes_with.result
          c.loop-number.invariant (omega arith) c.at-kind.ensures c.completes_with.ensures w.if-completes_with.true (w.kinds-is ∙ w.with-kinds.ensures)
      | else-completes_with w ↦
          gathered-no test c.loop-number.kinds c.if-completes_with.kinds c.loop-number.number c.at-kind.result c.completes_with.result
          c.loop-number.invariant c.at-kind.ensures c.completes_with.ensures w.if-completes_with.false w.kinds-is
    ]

pub returns : goal.returns
returns c =
    c.loop-number.invariant
    ∙ kinds_below-stays (is_completing c.args.counts.now c.args.known.now.melds) c.loop-number.number (9 * c.args.suit + 9) (omega arith)
    (λ kind within past below. absurd (omega (arith, past, c.loop-number-test.false, c.end_of-end.ensures.last kind within below)))
