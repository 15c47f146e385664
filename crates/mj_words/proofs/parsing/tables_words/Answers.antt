use Rattle.std.proofs.Common.{ap, ◌∙◌}
use Rattle.clap.specs.Words.{is_simple_and_free}
use Rattle.mj_words.proofs.LineLaws.{tables_is_simple}
use Rattle.mj_words.proofs.parsing.tables_words.Goals as goal

pub parse-requires : goal.parse-requires
parse-requires c = ap is_simple_and_free c.in_ok-tables_command.ensures ∙ tables_is_simple
