use Rattle.mj_facts.proofs.FewKept.{lists_none}
use Rattle.mj_facts.proofs.few_tiles.no_tiles.Goals as goal

pub returns : goal.returns
returns c = lists_none
