use Rattle.std.proofs.Common.{Bool, List, take, drop, sym, ◌∙◌}
use Rattle.mj_deeds.specs.declared.rule.Rule.{Rule}
use Rattle.mj_rules.specs.Broken.{questions}
use Rattle.mj_rules.specs.View.{view_of}
use Rattle.mj_judge.proofs.Verdicts.{not_refused, others_decide}
use Rattle.mj_judge.proofs.verdict.judge_reach.Goals as goal

pub returns : goal.returns
returns c =
    let asked : List (Bool × Rule) = questions c.args.table.now.rules c.args.seat (view_of c.args.table.now.deeds c.args.seat) c.args.answer.now in
    let concealed = not_refused _ _ _ c.is_reach_open.ensures c.in_ok-refuse_if.ensures in
    let poor = not_refused _ _ _ c.is_reach_poor.ensures c.in_ok-refuse_if-2.ensures in
    let late = not_refused _ _ _ c.is_reach_late.ensures c.in_ok-refuse_if-3.ensures in
    let unready = not_refused _ _ _ c.is_reach_unready.ensures c.in_ok-refuse_if-4.ensures in
    c.judge_end.ensures ∙ sym (others_decide (take 4 (drop 16 asked)) (drop 20 asked) (concealed, (poor, (late, (unready, tt)))))
