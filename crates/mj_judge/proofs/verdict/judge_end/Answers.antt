use Rattle.std.proofs.Common.{rules, Bool, cond, [], ◌∷◌, Some, None, ap, ◌∙◌}
use Rattle.mj_deeds.specs.declared.rule.Rule.TheVariants as refusal
use Rattle.mj_rules.specs.Broken.{is_not_complete, is_furiten_win, is_no_yaku, is_not_nine}
use Rattle.mj_rules.specs.View.{view_of}
use Rattle.mj_judge.proofs.Verdicts.{broken_before, last_decides}
use Rattle.mj_judge.proofs.verdict.judge_end.Goals as goal

pub returns-in_err-judge_win : goal.returns-in_err-judge_win
returns-in_err-judge_win c =
    let view = view_of c.args.table.now.deeds c.args.seat in
    let answer = c.args.answer.now in
    broken_before ((is_not_complete view answer, refusal.NotComplete) ∷ (is_furiten_win view answer, refusal.Furiten) ∷ (is_no_yaku view answer, refusal.NoYaku) ∷ [])
    (is_not_nine view answer, refusal.NotNine) _ _ (search rules) c.in_err-judge_win.ensures

pub returns : goal.returns
returns c =
    let view = view_of c.args.table.now.deeds c.args.seat in
    let answer = c.args.answer.now in
    last_decides ((is_not_complete view answer, refusal.NotComplete) ∷ (is_furiten_win view answer, refusal.Furiten) ∷ (is_no_yaku view answer, refusal.NoYaku) ∷ [])
    (is_not_nine view answer, refusal.NotNine) _ c.in_ok-judge_win.ensures (c.refuse_if.ensures ∙ ap (λ (b : Bool). cond b (Some refusal.NotNine) None) c.is_not_nine.ensures)
