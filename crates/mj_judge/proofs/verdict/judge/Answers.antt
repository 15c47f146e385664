use Rattle.std.proofs.Common.{rules, ◌≡◌, None, drop, sym, ap, ◌∙◌}
use Rattle.mj_deeds.specs.declared.answer.Answer.TheVariants.{Pass, Win}
use Rattle.mj_rules.specs.Broken.{broken_by, questions, first_broken}
use Rattle.mj_rules.specs.View.{view_of}
use Rattle.mj_judge.proofs.Drawn.{win_decided}
use Rattle.mj_judge.proofs.Tried.{pass_unbroken, discard_decided}
use Rattle.mj_judge.proofs.verdict.judge.Goals as goal

pub returns-in-Pass-None : goal.returns-in-Pass-None
unfolding view_of
returns-in-Pass-None c =
    let bare : c.args.answer.now ≡ Pass None = search rules in
    pass_unbroken c.args.table.now.rules c.args.seat (view_of c.args.table.now.deeds c.args.seat) (sym c.may_pass.ensures ∙ c.if-may_pass.true)
    ∙ ap (broken_by c.args.table.now.rules c.args.seat (view_of c.args.table.now.deeds c.args.seat)) (sym bare)

pub returns-in-Discard : goal.returns-in-Discard
unfolding view_of
returns-in-Discard c =
    c.judge_discard.ensures c.in-Discard.actor
    ∙ discard_decided c.args.table.now.rules c.args.seat c.in-Discard.actor (view_of c.args.table.now.deeds c.args.seat) _ _ c.if-actor-seat.true
    (sym c.is_discarding.ensures ∙ c.if-is_discarding.true)
    ∙ ap (broken_by c.args.table.now.rules c.args.seat (view_of c.args.table.now.deeds c.args.seat)) (sym c.in-Discard.is)

pub returns-in-Win : goal.returns-in-Win
unfolding view_of
returns-in-Win c =
    c.judge_winning.ensures c.in-Win.actor
    ∙ ap (λ tile. first_broken (drop 3 (questions c.args.table.now.rules c.args.seat (view_of c.args.table.now.deeds c.args.seat) (Win c.in-Win.actor c.in-Win.target tile)))) c.as_ref.ensures.value
    ∙ win_decided c.args.table.now.rules c.args.seat c.in-Win.actor c.in-Win.target c.in-Win.tile (view_of c.args.table.now.deeds c.args.seat)
    c.if-actor-seat-2.true (sym c.may_win.ensures ∙ c.if-may_win.true)
    ∙ ap (broken_by c.args.table.now.rules c.args.seat (view_of c.args.table.now.deeds c.args.seat)) (sym c.in-Win.is)
