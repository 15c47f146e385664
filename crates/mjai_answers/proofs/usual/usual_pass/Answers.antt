use Rattle.std.proofs.Common.{sym, ap, ◌∙◌}
use Rattle.std.specs.Prelude.{codes}
use Rattle.mj_forms.specs.AnswerForms.{answer_of}
use Rattle.mjai_answers.proofs.Spellings.{pass_read, pass_of_actor_read}
use Rattle.mjai_answers.proofs.Texts.{typed, typed_alone}
use Rattle.mjai_answers.proofs.usual.usual_pass.Goals as goal

pub returns-then-is_end : goal.returns-then-is_end
returns-then-is_end c =
    let same = c.is_end.ensures c.if-is_end.true in
    pass_read ∙ ap answer_of (sym (typed_alone _ _ _ (codes "none\"") c.in_ok-rest.ensures c.in_ok-rest-2.ensures same))

pub returns-then-is_end-2 : goal.returns-then-is_end-2
returns-then-is_end-2 c =
    let same = c.is_end-2.ensures c.if-is_end-2.true in
    pass_of_actor_read _ _ _ _ (typed _ _ _ _ (codes "none\"") c.in_ok-rest.ensures c.in_ok-rest-2.ensures c.in_ok-rest-3.ensures) c.in_ok-actor.ensures same
