use Rattle.std.proofs.Common.{Bool, List, take, drop, sym, ◌∙◌}
use Rattle.mj_deeds.specs.declared.rule.Rule.{Rule}
use Rattle.mj_rules.specs.Broken.{questions, broken_by}
use Rattle.mj_rules.specs.View.{view_of}
use Rattle.mj_judge.proofs.Verdicts.{not_refused, others_decide}
use Rattle.mj_judge.proofs.verdict.judge_in_order.Goals as goal

pub returns : goal.returns
unfolding broken_by
returns c =
    let asked : List (Bool × Rule) = questions c.args.table.now.rules c.args.seat (view_of c.args.table.now.deeds c.args.seat) c.args.answer.now in
    c.judge_act.ensures
    ∙ sym (others_decide (take 3 asked) (drop 3 asked) (
      not_refused _ _ _ c.is_unreadable.ensures c.in_ok-refuse_if.ensures,
      (
        not_refused _ _ _ c.is_not_yours.ensures c.in_ok-refuse_if-2.ensures,
        (
          not_refused _ _ _ c.is_not_now.ensures c.in_ok-refuse_if-3.ensures,
          tt,
        ),
      ),
    ))
