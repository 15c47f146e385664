use Rattle.mj_forms.specs.Lines.{bracketed}
use Rattle.mjai_lines.proofs.Chains.{◌▸◌}
use Rattle.mjai_lines.proofs.winning.push_rows.Goals as goal

pub returns : goal.returns
unfolding bracketed
returns c = c.in_ok-push_all.ensures.ok ▸ c.in_ok-push_joined_rows.ensures ▸ c.in_ok-push_all-2.ensures.ok
