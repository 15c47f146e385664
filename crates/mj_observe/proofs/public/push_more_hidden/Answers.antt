use Rattle.mjai_lines.proofs.Chains.{◌▸◌, as_piece}
use Rattle.mj_observe.proofs.Pieces.{one_more_hidden}
use Rattle.mj_observe.proofs.public.push_more_hidden.Goals as goal

pub loop-copy-preserved : goal.loop-copy-preserved
loop-copy-preserved c = as_piece (one_more_hidden c.loop-copy.copy) (c.loop-copy.invariant ▸ c.in_ok-push_all.ensures.ok)
