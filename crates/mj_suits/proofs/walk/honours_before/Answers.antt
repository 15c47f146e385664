use Rattle.mj_suits.proofs.walk.honours_before.Goals as goal

pub returns : goal.returns
returns c after rooms counts holds = c.honours_at_cost.ensures after rooms counts c.args.held c.args.room c.costs_of.ensures holds
