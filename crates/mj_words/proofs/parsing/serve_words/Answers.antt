use Rattle.std.proofs.Common.{ap, ◌∙◌}
use Rattle.clap.specs.Words.{is_simple_and_free}
use Rattle.mj_words.proofs.LineLaws.{serve_is_simple}
use Rattle.mj_words.proofs.parsing.serve_words.Goals as goal

pub parse-requires : goal.parse-requires
parse-requires c = ap is_simple_and_free c.in_ok-serve_command.ensures ∙ serve_is_simple
