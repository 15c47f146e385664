use Rattle.std.proofs.Common.{rules}
use Rattle.mj_pay.specs.Payments.{ron_changes}
use Rattle.mj_pay.proofs.Totals.{ron_total, summed}
use Rattle.mj_pay.proofs.ron_deltas.Goals as goal

-- the array is the list, item by item
pub returns-clause-value : goal.returns-clause-value
unfolding ron_changes
returns-clause-value c = search rules

-- the sum of the array is that of the list
pub returns-clause-total : goal.returns-clause-total
returns-clause-total c =
    summed _ _ _ _ _ _ (returns-clause-value c)
    (ron_total _ _ _ _ _ _ c.requires.two_seats c.requires.winner_seat c.requires.target_seat)
