use Rattle.std.proofs.Common.{arith, ◌≡◌, ◌*◌, ◌∙◌, ap, subst}
use Rattle.mj_tiles.specs.Counts.{IsCounts}
use Rattle.mj_tiles.specs.Kinds.{kinds_that}
use Rattle.mj_readings.specs.Completing.{is_completing}
use Rattle.mj_readings.specs.Inner.OneMore.{NoSpecial}
use Rattle.mj_readings.specs.Inner.Sums.{singles}
use Rattle.mj_readings.proofs.KindsBelow.{kinds_below-none, gathered-all}
use Rattle.mj_readings.proofs.OneMore.{completing_law, sums_refuse_all}
use Rattle.mj_readings.proofs.completing_kinds.completing.Goals as goal

pub returns-then-not-special-clause-value : goal.returns-then-not-special-clause-value
returns-then-not-special-clause-value c =
    sums_refuse_all c.args.counts.now c.args.melds c.none.result c.of-over.result.singles c.has_singles.result c.numbers.ensures.size
    (subst (λ ns. NoSpecial ns c.args.melds) c.numbers-2.ensures.value (c.may_be_special-special.ensures c.if-not-special.true))
    (c.of-over.ensures.all ∙ ap singles c.numbers.ensures.value) c.has_singles.ensures c.if-has_singles.true c.none.ensures

pub returns-then-not-special-clause-law : goal.returns-then-not-special-clause-law
returns-then-not-special-clause-law c =
    let all : c.none.result ≡ kinds_that (is_completing c.args.counts.now c.args.melds) =
    sums_refuse_all c.args.counts.now c.args.melds c.none.result c.of-over.result.singles c.has_singles.result c.numbers.ensures.size
    (subst (λ ns. NoSpecial ns c.args.melds) c.numbers-2.ensures.value (c.may_be_special-special.ensures c.if-not-special.true))
    (c.of-over.ensures.all ∙ ap singles c.numbers.ensures.value) c.has_singles.ensures c.if-has_singles.true c.none.ensures in
    let are : IsCounts c.args.counts.now = record { size = c.numbers.ensures.size; within = c.numbers.ensures.within } in
    completing_law c.args.counts.now c.args.melds c.none.result are all

pub loop-suit-init : goal.loop-suit-init
loop-suit-init c = c.none-kinds.ensures ∙ kinds_below-none (is_completing c.args.counts.now c.args.melds)

pub returns-clause-value : goal.returns-clause-value
returns-clause-value c =
    gathered-all (is_completing c.args.counts.now c.args.melds) c.loop-suit.kinds (9 * c.loop-suit.suit) c.loop-suit.invariant (omega (arith, c.loop-suit-test.false))

pub returns-clause-law : goal.returns-clause-law
returns-clause-law c =
    let all : c.loop-suit.kinds ≡ kinds_that (is_completing c.args.counts.now c.args.melds) =
    gathered-all (is_completing c.args.counts.now c.args.melds) c.loop-suit.kinds (9 * c.loop-suit.suit) c.loop-suit.invariant
    (omega (arith, c.loop-suit-test.false)) in
    let are : IsCounts c.args.counts.now = record { size = c.numbers.ensures.size; within = c.numbers.ensures.within } in
    completing_law c.args.counts.now c.args.melds c.loop-suit.kinds are all
