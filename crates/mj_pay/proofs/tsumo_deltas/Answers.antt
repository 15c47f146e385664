use Rattle.std.proofs.Common.{rules}
use Rattle.mj_pay.specs.Payments.{drawn_changes}
use Rattle.mj_pay.proofs.Totals.{drawn_total, summed}
use Rattle.mj_pay.proofs.tsumo_deltas.Goals as goal

-- the array is the list, item by item
pub returns-clause-value : goal.returns-clause-value
unfolding drawn_changes
returns-clause-value c = search rules

-- the sum of the array is that of the list
pub returns-clause-total : goal.returns-clause-total
returns-clause-total c =
    summed _ _ _ _ _ _ (returns-clause-value c) (drawn_total _ _ _ _ _ c.requires.winner_seat)
