use Rattle.std.proofs.Common.{sym, ◌∙◌, ◌&&◌, ap, arith, subst}
use Rattle.mj_tiles.specs.Kinds.{has_kind}
use Rattle.mj_tiles.proofs.EachKind.{any_kind, no_kind}
use Rattle.mj_readings.specs.Completing.{is_completing}
use Rattle.mj_readings.specs.Inner.OneMore.{NoSpecial}
use Rattle.mj_readings.specs.Inner.Suits.{NoneIn}
use Rattle.mj_readings.specs.Inner.Sums.{singles}
use Rattle.mj_readings.proofs.OneMore.{none_among, sums_refuse_among}
use Rattle.mj_readings.proofs.Suits.{suit_passed}
use Rattle.mj_readings.proofs.completing_kinds.is_completed_by.Goals as goal

pub returns-then-is_empty : goal.returns-then-is_empty
returns-then-is_empty c = none_among c.args.counts.now c.args.melds c.args.among c.is_empty.result c.is_empty.ensures c.if-is_empty.true

pub returns-then-has_singles : goal.returns-then-has_singles
returns-then-has_singles c =
    sums_refuse_among c.args.counts.now c.args.melds c.args.among c.of-over.result.singles c.has_singles.result c.numbers.ensures.size
    (subst (λ ns. NoSpecial ns c.args.melds) c.numbers-2.ensures.value (c.may_be_special-special.ensures c.if-not-special.true))
    (c.of-over.ensures.all ∙ ap singles c.numbers.ensures.value) c.has_singles.ensures c.if-has_singles.true

pub loop-suit-preserved : goal.loop-suit-preserved
loop-suit-preserved c =
    suit_passed (λ k. has_kind c.args.among k && is_completing c.args.counts.now c.args.melds k) c.loop-suit.suit c.loop-suit.invariant
    (subst (λ melds. NoneIn c.loop-suit.suit (λ k. has_kind c.args.among k && is_completing c.args.counts.now melds k)) c.of-known.ensures.melds
    (c.is_completed_in.ensures.none c.if-is_completed_in.false))

pub returns-then-is_completed_in : goal.returns-then-is_completed_in
returns-then-is_completed_in c =
    let found = c.is_completed_in.ensures.some c.if-is_completed_in.true in
    sym (any_kind (λ k. has_kind c.args.among k && is_completing c.args.counts.now c.args.melds k) found.0 found.1.0
    (ap (λ melds. has_kind c.args.among found.0 && is_completing c.args.counts.now melds found.0) (sym c.of-known.ensures.melds) ∙ found.1.1))

pub returns : goal.returns
returns c =
    sym (no_kind (λ k. has_kind c.args.among k && is_completing c.args.counts.now c.args.melds k)
    (λ k within. c.loop-suit.invariant k within (omega (arith, within, c.loop-suit-test.false))))
