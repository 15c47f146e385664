use Rattle.mj_suits.proofs.walk.honours_in_full_room.Goals as goal

pub returns : goal.returns
returns c after rooms counts holds = c.honours_at_cost.ensures after rooms counts c.args.held 4 c.costs_in_full_room.ensures holds
