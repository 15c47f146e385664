use Rattle.std.proofs.Common.{sym, ◌∙◌, arith}
use Rattle.mj_tiles.specs.Kinds.{has_kind}
use Rattle.mj_page.proofs.Bits.{none_gathered, one_more, none_more}
use Rattle.mj_page.proofs.sets.kinds_of.Goals as goal
use Rattle.mj_page.proofs.sets.kinds_of.Goals.{then-has_bit, else-has_bit}

pub loop-number-init : goal.loop-number-init
loop-number-init c = none_gathered _ _ c.none-kinds.ensures

pub loop-number-preserved : goal.loop-number-preserved
loop-number-preserved c = elim c.if-has_bit.branch [
  | then-has_bit w ↦ one_more c.loop-number.kinds c.if-has_bit.kinds c.loop-number.number w.at.result (has_kind c.args.bits) c.loop-number.invariant w.at.ensures (w.kinds-is ∙ w.with-kinds.ensures)
      (sym c.has_bit.ensures ∙ w.if-has_bit.true)
  | else-has_bit w ↦ none_more c.loop-number.kinds c.if-has_bit.kinds c.loop-number.number (has_kind c.args.bits) c.loop-number.invariant w.kinds-is (sym c.has_bit.ensures ∙ w.if-has_bit.false)
]

pub returns : goal.returns
returns c = λ kind low. c.loop-number.invariant.below kind (omega (arith, low, c.loop-number-test.false))
