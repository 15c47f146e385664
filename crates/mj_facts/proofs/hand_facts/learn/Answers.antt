use Rattle.std.proofs.Common.{[], sym, ◌∙◌}
use Rattle.mj_facts.proofs.HandsKept.{at_start, few_at_start, within_hand, few_within, before_hand}
use Rattle.mj_facts.proofs.hand_facts.learn.Goals as goal

pub returns-then-is_hand_start : goal.returns-then-is_hand_start
returns-then-is_hand_start c before few k =
    let start = sym c.is_hand_start.ensures ∙ c.if-is_hand_start.true in
    at_start before c.args.deed.now _ start (c.learn_more.ensures [] (few_at_start before c.args.deed.now start few) c.no_facts.ensures)

pub returns-then-facts : goal.returns-then-facts
returns-then-facts c before few k =
    let other = sym c.is_hand_start.ensures ∙ c.if-is_hand_start.false in
    let some = sym c.if-facts.true ∙ k.begun in
    within_hand before c.args.deed.now _ other some (c.learn_more-then-facts.ensures before (few_within before c.args.deed.now other some few) k)

pub returns : goal.returns
returns c before few k = before_hand before c.args.deed.now c.args.facts.now (sym c.is_hand_start.ensures ∙ c.if-is_hand_start.false) (sym c.if-facts.false ∙ k.begun) k
