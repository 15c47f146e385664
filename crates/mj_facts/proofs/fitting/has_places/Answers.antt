use Rattle.std.proofs.Common.{sym, ◌∙◌}
use Rattle.mj_facts.proofs.FitsKept.{no_call_fits}
use Rattle.mj_facts.proofs.fitting.has_places.Goals as goal

pub returns-then-not-is_call : goal.returns-then-not-is_call
returns-then-not-is_call c few = no_call_fits c.args.seats.now c.args.deed.now (sym c.is_call.ensures ∙ c.if-not-is_call.true) few
