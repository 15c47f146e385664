use Rattle.std.proofs.Common.{◌∙◌}
use Rattle.mj_embedded.proofs.PassLines.{kept_list}
use Rattle.mj_embedded.proofs.turns.lists_pass_alone.Goals as goal

pub returns-then-k-deeds-clause-lists : goal.returns-then-k-deeds-clause-lists
returns-then-k-deeds-clause-lists c = kept_list c.passes_alone.result _ _ c.args.seat c.args.k (c.if-k-deeds.true ∙ c.deeds-deeds.ensures) c.passes_alone.ensures
