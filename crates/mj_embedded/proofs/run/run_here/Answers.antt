use Rattle.std.proofs.Common.{◌∙◌}
use Rattle.mj_embedded.proofs.run.run_here.Goals as goal

pub returns : goal.returns
returns c = record { status = c.run_words-status.result; code_is = c.from.ensures ∙ c.exit_code.ensures; does = c.run_words-status.ensures; tells = c.tell_status.ensures }
