use Rattle.std.proofs.Common.{rules, ◌≡◌, ◌++◌, true, false, refl, sym, ◌∙◌}
use Rattle.mj_deeds.specs.Hand.{is_hand_start}
use Rattle.mj_deeds.specs.declared.deed.Viewer.TheVariants.{Record}
use Rattle.mj_forms.specs.Lines.{line}
use Rattle.mj_observe.specs.Views.{public_line}
use Rattle.mj_observe.specs.Inner.Kept.{of_hand, shown_at}
use Rattle.mj_observe.proofs.Keeping.{kept_as, kept_first, kept_next, part_next}
use Rattle.mjai_lines.proofs.Chains.{as_piece}
use Rattle.mj_observe.proofs.observer.keep.Goals as goal

pub returns-then-is_hand_start-clause-kept : goal.returns-then-is_hand_start-clause-kept
returns-then-is_hand_start-clause-kept c = λ before k.
    let starts : is_hand_start c.args.deed.now ≡ true = sym c.is_hand_start.ensures ∙ c.if-is_hand_start.true in
    kept_as _ _ _ _ _ (search rules) refl (kept_first before c.args.deed.now starts)

pub returns-clause-kept : goal.returns-clause-kept
returns-clause-kept c = λ before k.
    let goes_on : is_hand_start c.args.deed.now ≡ false = sym c.is_hand_start.ensures ∙ c.if-is_hand_start.false in
    let last : c.of_hand-last.result.now ≡ of_hand c.args.count (line Record c.args.deed.now) = search rules in
    kept_as _ _ _ _ _ c.in_ok-push_both.ensures.kept refl (kept_next before c.args.deed.now _ _ _ _ goes_on k c.one_more-number.ensures last)

pub returns-clause-told : goal.returns-clause-told
returns-clause-told c = λ before k.
    let goes_on : is_hand_start c.args.deed.now ≡ false = sym c.is_hand_start.ensures ∙ c.if-is_hand_start.false in
    let last : c.of_hand-last.result.now ≡ of_hand c.args.count (line Record c.args.deed.now) = search rules in
    let keeps = kept_next before c.args.deed.now c.args.kept.now.items c.of_hand-last.result.now c.args.count c.one_more-number.result goes_on k c.one_more-number.ensures last in
    let text : c.as_slice-4.result.now ≡ public_line c.args.deed.now ++ shown_at c.args.deed.now c.one_more-number.result (c.args.kept.now.items ++ c.of_hand-last.result.now) =
    c.as_slice-4.ensures.value ∙ c.in_ok-push_shown.ensures.is
    ∙ (λ i. c.requires.text i ++ shown_at c.args.deed.now c.one_more-number.result (c.as_slice-3.ensures.value i ++ c.of_hand-last.result.now)) in
    as_piece (text ∙ part_next before c.args.deed.now _ _ keeps) c.in_ok-push_both.ensures.told
