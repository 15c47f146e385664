use Rattle.std.proofs.Common.{ap, ◌∙◌}
use Rattle.clap.specs.Words.{is_simple_and_free}
use Rattle.mj_words.specs.Lines.{observe_line}
use Rattle.mj_words.proofs.LineLaws.{observe_is_simple, taken_by}
use Rattle.mj_words.proofs.parsing.takes_observe.Goals as goal

pub parse-requires : goal.parse-requires
unfolding observe_line
parse-requires c = ap is_simple_and_free c.new-command.ensures.app ∙ observe_is_simple

pub returns : goal.returns
unfolding observe_line
returns c = c.is_some.ensures ∙ taken_by observe_line _ _ _ c.new-command.ensures.app c.in_ok-parse.ensures
