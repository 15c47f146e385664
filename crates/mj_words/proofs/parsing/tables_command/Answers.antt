use Rattle.std.proofs.Common.{◌≡◌, ap, ◌∙◌, codes}
use Rattle.std.proofs.lemmas.Result.{IfOk-weaker}
use Rattle.clap.specs.Words.{app_of, new_app, with_rule}
use Rattle.mj_words.specs.Lines.{option_wanted, tables_line}
use Rattle.mj_words.specs.Inner.Parsing.{with_settings}
use Rattle.mj_words.proofs.LineLaws.{with_more, with_one}
use Rattle.mj_words.proofs.parsing.tables_command.Goals as goal

pub returns : goal.returns
unfolding tables_line
returns c =
    let first = with_one _ _ c.option_wanted.result (codes "tables") (option_wanted (codes "seed")) c.new.ensures.app c.option_wanted.ensures.0 c.option_wanted.ensures.1 c.in_ok-arg.ensures in
    let start : app_of c.in_ok-command.command ≡ with_rule (with_rule (new_app (codes "tables")) (option_wanted (codes "seed"))) (option_wanted (codes "rooms")) =
    with_more _ _ c.option_wanted-2.result _ _ first c.option_wanted-2.ensures.0 c.option_wanted-2.ensures.1 c.in_ok-command.ensures in
    IfOk-weaker c.with_settings.result _ _ (λ full h. h ∙ ap with_settings start) c.with_settings.ensures
