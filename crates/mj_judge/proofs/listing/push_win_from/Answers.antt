use Rattle.std.proofs.Common.{◌≡◌, false, rules, sym, ap, ◌∙◌}
use Rattle.std.specs.Prelude.{None, is_none}
use Rattle.std.specs.Result.{result_err}
use Rattle.mj_deeds.specs.declared.answer.Answer.TheVariants.{Win}
use Rattle.mj_rules.specs.View.{view_of}
use Rattle.mj_judge.proofs.Drawn.{one_refused, win_judged}
use Rattle.mj_judge.proofs.listing.push_win_from.Goals as goal

pub returns-then-is_err : goal.returns-then-is_err
unfolding view_of
returns-then-is_err c =
    let broken : is_none (result_err c.judge_winning.result) ≡ false = search rules in
    one_refused c.args.table.now.rules c.args.table.now.deeds c.args.seat (Win c.args.seat c.args.target None) _
    (win_judged c.args.table.now.rules c.args.seat c.args.target (view_of c.args.table.now.deeds c.args.seat) c.requires.offered ∙ sym (ap is_none (c.judge_winning.ensures c.args.seat)) ∙ broken)
