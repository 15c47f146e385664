use Rattle.mjai_lines.proofs.Chains.{◌▸◌}
use Rattle.mjai_lines.proofs.deed.push_call.Goals as goal

pub returns : goal.returns
returns c = c.in_ok-push_call_object.ensures ▸ c.in_ok-push_all.ensures.ok
