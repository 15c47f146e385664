use Rattle.std.proofs.Common.{sym, ap, get_or, ◌∙◌, arith}
use Rattle.mj_shanten.proofs.BestDiscard.{not_among, not_held, discard_within}
use Rattle.mj_shanten.proofs.discards.is_within.Goals as goal

pub returns-then-not-has : goal.returns-then-not-has
returns-then-not-has c = λ discard. not_among _ _ _ _ _ _ c.has.result c.has.ensures c.if-not-has.true discard

pub returns-then-held-number-eq0 : goal.returns-then-held-number-eq0
returns-then-held-number-eq0 c = λ discard. not_held _ _ _ _ _ _ _ c.held.ensures.size c.held.ensures.held
    (ap (λ k. get_or c.held.result.now k 0) (sym c.number.ensures.value) ∙ c.if-held-number-eq0.true) discard

pub returns : goal.returns
returns c =
    discard_within _ _ c.held.result.now _ _ _ _ c.has.result _ c.held.ensures.size (omega arith) c.held.ensures.held c.has.ensures c.if-not-has.false
    (λ none. c.if-held-number-eq0.false (ap (λ k. get_or c.held.result.now k 0) c.number.ensures.value ∙ none)) c.leaves_at_most.ensures
