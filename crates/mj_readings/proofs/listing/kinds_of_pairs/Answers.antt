use Rattle.std.proofs.Common.{eqb, get_or, ◌∙◌, arith}
use Rattle.mj_readings.proofs.KindsBelow.{kinds_below-none}
use Rattle.mj_readings.proofs.PairKinds.{pairs_with, pairs_without}
use Rattle.mj_readings.proofs.listing.kinds_of_pairs.Goals as goal
use Rattle.mj_readings.proofs.listing.kinds_of_pairs.Goals.{then-count-eq2, else-count-eq2}

pub loop-number-init : goal.loop-number-init
loop-number-init c = c.none-kinds.ensures ∙ kinds_below-none (λ kind. eqb (get_or c.args.counts.now kind 0) 2)

pub loop-number-preserved : goal.loop-number-preserved
loop-number-preserved c =
    elim c.if-count-eq2.branch [
      | then-count-eq2 w ↦
          pairs_with c.numbers-count-items.result.now c.args.counts.now c.loop-number.number c.loop-number.kinds c.if-count-eq2.kinds w.at.result
          c.numbers-count-items.ensures.value w.if-count-eq2.true c.loop-number.invariant (omega (arith, c.loop-number-test.true, c.numbers-count-items.ensures.size)) w.at.ensures
          (w.kinds-is ∙ w.with-kinds.ensures)
      | else-count-eq2 w ↦
          pairs_without c.numbers-count-items.result.now c.args.counts.now c.loop-number.number c.loop-number.kinds c.if-count-eq2.kinds
          c.numbers-count-items.ensures.value w.if-count-eq2.false c.loop-number.invariant w.kinds-is
    ]
