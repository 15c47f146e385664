use Rattle.std.proofs.Common.{◌<◌, ap, subst, sym, eqb, ltb, ◌&&◌, ◌∙◌}
use Rattle.std.specs.List.{count_by}
use Rattle.std.proofs.lemmas.Bool.{false≢true, ltb-true}
use Rattle.mj_readings.specs.Inner.Sums.{singles, tiles_from}
use Rattle.mj_readings.proofs.FarLaws.{far_open, far_closed}
use Rattle.mj_readings.proofs.completing_kinds.is_far.Goals as goal

pub returns-then-not-has_more_singles : goal.returns-then-not-has_more_singles
returns-then-not-has_more_singles c = λ so. absurd (false≢true so)

pub returns-then-melds-gt0 : goal.returns-then-melds-gt0
returns-then-melds-gt0 c = λ so given kind within is other inside.
    let many : 2 < c.of.result.singles = ltb-true 2 c.of.result.singles (sym c.has_more_singles.ensures ∙ c.if-not-has_more_singles.false) in
    far_open c.args.counts.now given c.args.melds kind other c.numbers.ensures.size within is inside
    (subst (λ n. 2 < n) (c.of.ensures.all ∙ ap singles c.numbers.ensures.value) many) c.if-melds-gt0.true

pub returns : goal.returns
returns c = λ so given kind within is other inside.
    let many : 2 < c.of.result.singles = ltb-true 2 c.of.result.singles (sym c.has_more_singles.ensures ∙ c.if-not-has_more_singles.false) in
    far_closed c.args.counts.now given c.args.melds kind other c.numbers.ensures.size within is inside
    (subst (λ n. 2 < n) (c.of.ensures.all ∙ ap singles c.numbers.ensures.value) many)
    (ap (λ ns. ltb 2 (count_by (λ n. eqb n 1) ns) && ltb 1 (tiles_from ns 1 7)) (sym c.numbers-2.ensures.value) ∙ sym c.is_far_from_special.ensures ∙ so)
