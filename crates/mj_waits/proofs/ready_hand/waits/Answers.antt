use Rattle.std.proofs.Common.{arith, ◌<◌, ◌∙◌, ap, ltb, get_or, ◌&&◌}
use Rattle.mj_tiles.specs.Kinds.{has_kind}
use Rattle.mj_waits.proofs.WaitSteps.{wait_value, wait_law, none_waits, waits-start, waits-yes, waits-no, waits-value, waits-law}
use Rattle.mj_waits.proofs.ready_hand.waits.Goals as goal
use Rattle.mj_waits.proofs.ready_hand.waits.Goals.{then-waits_on, else-waits_on}

pub loop-number-init : goal.loop-number-init
loop-number-init c = waits-start c.args.counts.now c.args.room.now c.args.melds c.none-kinds.result c.none-kinds.ensures

pub returns-then-is_empty : goal.returns-then-is_empty
returns-then-is_empty c =
    let both = none_waits c.args.counts.now c.args.room.now c.args.melds c.completing-complete.result c.is_empty.result
    c.completing-complete.ensures.value c.completing-complete.ensures.law c.numbers-most.ensures.within c.is_empty.ensures c.if-is_empty.true in
    record { value = both.0; law = both.1 }

pub loop-number-preserved : goal.loop-number-preserved
loop-number-preserved c =
    let complete = c.completing-complete in
    let within : c.at-kind.result < 34 = omega (arith, c.loop-number-test.true, c.at-kind.ensures) in
    let few = c.numbers-most.ensures.within c.at-kind.result in
    let is = c.waits_on.ensures
    ∙ ap (λ ns. ltb (get_or c.args.counts.now c.at-kind.result 0) (get_or ns c.at-kind.result 0) && has_kind complete.result c.at-kind.result) c.numbers-most.ensures.value in
    let value = wait_value c.args.counts.now c.args.room.now c.args.melds complete.result c.at-kind.result c.waits_on.result complete.ensures.value within few is in
    let law = wait_law c.args.counts.now c.args.room.now c.args.melds complete.result c.at-kind.result c.waits_on.result complete.ensures.law within few is in
    elim c.if-waits_on.branch [
      | then-waits_on w ↦
          waits-yes c.args.counts.now c.args.room.now c.args.melds c.loop-number.kinds c.if-waits_on.kinds c.loop-number.number c.at-kind.result c.waits_on.result
          c.loop-number.invariant c.loop-number-test.true c.at-kind.ensures value law w.if-waits_on.true (w.kinds-is ∙ w.with-kinds.ensures)
      | else-waits_on w ↦
          waits-no c.args.counts.now c.args.room.now c.args.melds c.loop-number.kinds c.if-waits_on.kinds c.loop-number.number c.at-kind.result c.waits_on.result
          c.loop-number.invariant c.at-kind.ensures value law w.if-waits_on.false w.kinds-is
    ]

pub returns : goal.returns
returns c = record {
  value = waits-value c.args.counts.now c.args.room.now c.args.melds c.loop-number.kinds c.loop-number.number c.loop-number.invariant
      (omega (arith, c.loop-number-test.false, c.loop-number.auto.number-end));
  law = waits-law c.args.counts.now c.args.room.now c.args.melds c.loop-number.kinds c.loop-number.number c.loop-number.invariant
      (omega (arith, c.loop-number-test.false, c.loop-number.auto.number-end));
}
