use Rattle.mj_observe.specs.Views.{hand_shown_line}
use Rattle.mjai_lines.proofs.Chains.{◌▸◌}
use Rattle.mj_observe.proofs.public.push_count.Goals as goal

pub returns : goal.returns
unfolding hand_shown_line
returns c = c.in_ok-push_all.ensures.ok ▸ c.in_ok-push_number.ensures.ok ▸ c.in_ok-push_all-2.ensures.ok
