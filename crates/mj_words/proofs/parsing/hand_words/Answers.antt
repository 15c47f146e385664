use Rattle.std.proofs.Common.{◌≡◌, rules, ap, ◌∙◌, codes}
use Rattle.std.proofs.lemmas.Result.{IfOk-weaker}
use Rattle.clap.specs.Words.{app_of, is_simple_and_free}
use Rattle.mj_words.specs.Lines.{wanted_often, hand_line}
use Rattle.mj_words.proofs.LineLaws.{hand_is_simple, often, with_one, values_found, values_refused}
use Rattle.mj_words.proofs.parsing.hand_words.Goals as goal

pub parse-requires : goal.parse-requires
unfolding hand_line
parse-requires c =
    let several = often c.required.result c.num_args-several.result (codes "words") (search rules) c.num_args-several.ensures in
    let line_is : app_of c.in_ok-command.command ≡ hand_line =
    with_one _ _ c.num_args-several.result (codes "hand") (wanted_often (codes "words")) c.new-2.ensures.app several (search rules) c.in_ok-command.ensures in
    ap is_simple_and_free line_is ∙ hand_is_simple

pub returns-in-Some : goal.returns-in-Some
unfolding hand_line
returns-in-Some c =
    let several = often c.required.result c.num_args-several.result (codes "words") (search rules) c.num_args-several.ensures in
    let line_is : app_of c.in_ok-command.command ≡ hand_line =
    with_one _ _ c.num_args-several.result (codes "hand") (wanted_often (codes "words")) c.new-2.ensures.app several (search rules) c.in_ok-command.ensures in
    IfOk-weaker c.all_words.result _ _ (λ values h. values_found hand_line _ (codes "words") _ _ c.in-Some.matches _ line_is c.in_ok-matches.ensures c.in-Some.is h) c.all_words.ensures

pub returns-in-None : goal.returns-in-None
unfolding hand_line
returns-in-None c =
    let several = often c.required.result c.num_args-several.result (codes "words") (search rules) c.num_args-several.ensures in
    let line_is : app_of c.in_ok-command.command ≡ hand_line =
    with_one _ _ c.num_args-several.result (codes "hand") (wanted_often (codes "words")) c.new-2.ensures.app several (search rules) c.in_ok-command.ensures in
    values_refused hand_line _ (codes "words") _ _ line_is c.in_ok-matches.ensures c.in-None.is
