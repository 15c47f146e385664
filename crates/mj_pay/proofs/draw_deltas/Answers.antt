use Rattle.std.proofs.Common.{◌≡◌, length, rules}
use Rattle.mj_pay.proofs.Totals.{draw_total, shared, summed}
use Rattle.mj_pay.proofs.draw_deltas.Goals as goal

-- the array is the list, item by item
pub returns-clause-value : goal.returns-clause-value
returns-clause-value c =
    let long : length c.args.ready ≡ 4 = search rules in
    shared c.args.ready c.count_ready-ready_seats.result _ _ _ _ long (search rules) (search rules) (search rules) (search rules) (search rules)

-- the sum of the array is that of the list
pub returns-clause-total : goal.returns-clause-total
returns-clause-total c =
    let long : length c.args.ready ≡ 4 = search rules in
    summed _ _ _ _ _ _ (returns-clause-value c) (draw_total c.args.ready long)
