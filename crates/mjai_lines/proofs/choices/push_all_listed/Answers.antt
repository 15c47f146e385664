use Rattle.mjai_lines.proofs.Chains.{◌▸◌}
use Rattle.mjai_lines.proofs.choices.push_all_listed.Goals as goal

pub returns : goal.returns
returns c = c.in_ok-push_all.ensures.ok ▸ c.in_ok-push_answers.ensures ▸ c.in_ok-push_all-2.ensures.ok
