use Rattle.std.proofs.Common.{◌-◌, arith, get_or, ap, ap₂, ◌∙◌}
use Rattle.mj_shanten.proofs.Path.{row_start, row_step}
use Rattle.mj_shanten.proofs.exchanges.kinds_more.Goals as goal

pub loop-number-init : goal.loop-number-init
loop-number-init c = row_start c.args.counts.now c.args.others.now _ c.new-kinds.ensures.items

pub loop-number-preserved : goal.loop-number-preserved
loop-number-preserved c = row_step c.args.counts.now c.args.others.now c.loop-number.kinds.items _ _ c.loop-number.number c.in-Some.kind c.saturating_sub-more.result
    (omega arith) c.loop-number.invariant c.in_ok-push_times.ensures c.in-Some.ensures.1
    (c.saturating_sub-more.ensures ∙ ap₂ (λ a b. a - b) (ap (λ xs. get_or xs c.loop-number.number 0) c.numbers-numbers.ensures.value)
    (c.get.ensures.value ∙ ap (λ k. get_or c.args.others.now k 0) c.in-Some.ensures.1))
