use Rattle.std.proofs.Common.{◌<◌, ℕ, List, get_or, ap, sym, ◌∙◌, subst}
use Rattle.mj_deeds.specs.Hand.{hand}
use Rattle.mj_safe.proofs.Blocking.{not_four, not_runs, as_orphans}
use Rattle.mj_safe.proofs.blocks.is_blocked.Goals as goal

pub returns-then-numbers-from-ne4 : goal.returns-then-numbers-from-ne4
returns-then-numbers-from-ne4 c =
    not_four (hand c.args.table.now.deeds) c.args.seat c.args.against c.args.kind (get_or c.numbers.result.now c.from.result 0) c.seen-seen.result
    (subst (λ n. n < 34) c.number.ensures.value c.number.ensures.within) c.seen-seen.ensures
    (ap (λ (xs : List ℕ). get_or xs c.from.result 0) c.numbers.ensures.value ∙ ap (λ n. get_or c.seen-seen.result n 0) (c.from.ensures ∙ c.number.ensures.value))
    c.if-numbers-from-ne4.true

pub returns-then-not-are_runs_blocked : goal.returns-then-not-are_runs_blocked
returns-then-not-are_runs_blocked c =
    not_runs (hand c.args.table.now.deeds) c.args.seat c.args.against c.args.kind (get_or c.numbers.result.now c.from.result 0) c.seen-seen.result
    (subst (λ n. n < 34) c.number.ensures.value c.number.ensures.within) c.seen-seen.ensures
    (ap (λ (xs : List ℕ). get_or xs c.from.result 0) c.numbers.ensures.value ∙ ap (λ n. get_or c.seen-seen.result n 0) (c.from.ensures ∙ c.number.ensures.value))
    c.if-numbers-from-ne4.false (sym c.are_runs_blocked.ensures ∙ c.if-not-are_runs_blocked.true)

pub returns : goal.returns
returns c =
    c.are_orphans_blocked.ensures
    ∙ as_orphans (hand c.args.table.now.deeds) c.args.seat c.args.against c.args.kind (get_or c.numbers.result.now c.from.result 0) c.seen-seen.result c.has_meld-melded.result
    (subst (λ n. n < 34) c.number.ensures.value c.number.ensures.within) c.seen-seen.ensures
    (ap (λ (xs : List ℕ). get_or xs c.from.result 0) c.numbers.ensures.value ∙ ap (λ n. get_or c.seen-seen.result n 0) (c.from.ensures ∙ c.number.ensures.value))
    c.if-numbers-from-ne4.false (sym c.are_runs_blocked.ensures ∙ c.if-not-are_runs_blocked.false) c.has_meld-melded.ensures
