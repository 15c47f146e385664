use Rattle.std.proofs.Common.{Bool, List, take, drop, sym, ◌∙◌}
use Rattle.mj_deeds.specs.declared.rule.Rule.{Rule}
use Rattle.mj_rules.specs.Broken.{questions}
use Rattle.mj_rules.specs.View.{view_of}
use Rattle.mj_judge.proofs.Verdicts.{not_refused, others_decide}
use Rattle.mj_judge.proofs.verdict.judge_sets.Goals as goal

pub returns : goal.returns
returns c =
    let asked : List (Bool × Rule) = questions c.args.table.now.rules c.args.seat (view_of c.args.table.now.deeds c.args.seat) c.args.answer.now in
    let set = not_refused _ _ _ c.is_bad_set.ensures c.in_ok-refuse_if.ensures in
    let left = not_refused _ _ _ c.is_not_left.ensures c.in_ok-refuse_if-2.ensures in
    let swap = not_refused _ _ _ c.is_swap_call.ensures c.in_ok-refuse_if-3.ensures in
    let stuck = not_refused _ _ _ c.is_stuck_call.ensures c.in_ok-refuse_if-4.ensures in
    let full = not_refused _ _ _ c.is_kan_full.ensures c.in_ok-refuse_if-5.ensures in
    let dry = not_refused _ _ _ c.is_kan_dry.ensures c.in_ok-refuse_if-6.ensures in
    let riichi = not_refused _ _ _ c.is_riichi_kan_broken.ensures c.in_ok-refuse_if-7.ensures in
    c.judge_reach.ensures ∙ sym (others_decide (take 7 (drop 9 asked)) (drop 16 asked) (set, (left, (swap, (stuck, (full, (dry, (riichi, tt))))))))
