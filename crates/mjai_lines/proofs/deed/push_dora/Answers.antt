use Rattle.mj_forms.specs.Lines.{dora_line}
use Rattle.mjai_lines.proofs.Chains.{◌▸◌}
use Rattle.mjai_lines.proofs.deed.push_dora.Goals as goal

pub returns : goal.returns
unfolding dora_line
returns c = c.in_ok-push_all.ensures.ok ▸ c.in_ok-push_tile.ensures ▸ c.in_ok-push_all-2.ensures.ok
