use Rattle.std.proofs.Common.{◌≡◌, ap, ◌∙◌, codes}
use Rattle.std.proofs.lemmas.Result.{IfOk-weaker}
use Rattle.clap.specs.Words.{app_of, new_app, with_rule}
use Rattle.mj_words.specs.Lines.{option_wanted, serve_line}
use Rattle.mj_words.specs.Inner.Parsing.{with_settings}
use Rattle.mj_words.proofs.LineLaws.{with_one}
use Rattle.mj_words.proofs.parsing.serve_command.Goals as goal

pub returns : goal.returns
unfolding serve_line
returns c =
    let start : app_of c.in_ok-command.command ≡ with_rule (new_app (codes "serve")) (option_wanted (codes "seed")) =
    with_one _ _ c.option_wanted.result _ _ c.new.ensures.app c.option_wanted.ensures.0 c.option_wanted.ensures.1 c.in_ok-command.ensures in
    IfOk-weaker c.with_settings.result _ _ (λ full h. h ∙ ap with_settings start) c.with_settings.ensures
