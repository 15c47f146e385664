use Rattle.std.proofs.Common.{ap, ◌∙◌}
use Rattle.std.proofs.lemmas.Result.{on_ok_weaker}
use Rattle.mj_forms.specs.Choices.{line_with}
use Rattle.mj_streams.proofs.streams.prepare_next.Goals as goal

pub returns-clause-line : goal.returns-clause-line
returns-clause-line g c = on_ok_weaker c.prepare.result (λ text. c.in_ok-turn.ensures.line) c.prepare.ensures.text

pub returns-clause-text : goal.returns-clause-text
returns-clause-text g c =
    on_ok_weaker c.prepare.result (λ text. text ∙ ap (line_with c.args.possible.now) (c.as_slice.ensures.value ∙ c.in_ok-turn.ensures.line))
    c.prepare.ensures.text
