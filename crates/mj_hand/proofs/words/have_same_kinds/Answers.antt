use Rattle.mj_hand.proofs.MeldSteps.{few_no_fifth, other_kinds}
use Rattle.mj_hand.proofs.words.have_same_kinds.Goals as goal

pub unreachable-requires : goal.unreachable-requires
unreachable-requires c = c.in_default.ensures (few_no_fifth _ c.requires)

pub returns-in_default-counts_of : goal.returns-in_default-counts_of
returns-in_default-counts_of c = other_kinds _ _ (few_no_fifth _ c.requires) c.in_default-counts_of.ensures
