use Rattle.std.proofs.Common.{Bool, List, take, drop, sym, ◌∙◌}
use Rattle.mj_deeds.specs.declared.rule.Rule.{Rule}
use Rattle.mj_rules.specs.Broken.{questions}
use Rattle.mj_rules.specs.View.{view_of}
use Rattle.mj_judge.proofs.Verdicts.{not_refused, others_decide}
use Rattle.mj_judge.proofs.verdict.judge_act.Goals as goal

pub returns : goal.returns
returns c =
    let asked : List (Bool × Rule) = questions c.args.table.now.rules c.args.seat (view_of c.args.table.now.deeds c.args.seat) c.args.answer.now in
    let tile = not_refused _ _ _ c.is_no_such_tile.ensures c.in_ok-refuse_if.ensures in
    let target = not_refused _ _ _ c.is_wrong_target.ensures c.in_ok-refuse_if-2.ensures in
    let last = not_refused _ _ _ c.is_last_tile.ensures c.in_ok-refuse_if-3.ensures in
    let held = not_refused _ _ _ c.is_not_held.ensures c.in_ok-refuse_if-4.ensures in
    let drawn = not_refused _ _ _ c.is_not_drawn.ensures c.in_ok-refuse_if-5.ensures in
    let locked = not_refused _ _ _ c.is_locked.ensures c.in_ok-refuse_if-6.ensures in
    c.judge_sets.ensures ∙ sym (others_decide (take 6 (drop 3 asked)) (drop 9 asked) (tile, (target, (last, (held, (drawn, (locked, tt)))))))
