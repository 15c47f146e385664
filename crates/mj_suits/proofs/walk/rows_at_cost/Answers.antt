use Rattle.mj_suits.proofs.Rows.{before_are}
use Rattle.mj_suits.proofs.walk.rows_at_cost.Goals as goal

pub returns : goal.returns
returns c after rooms counts held room costs are =
    before_are after _ _ rooms counts c.args.next.now _ _ _ _ _ are costs c.begin-none.ensures c.begin-one.ensures c.begin-two.ensures
    c.alone.ensures c.beside_one.ensures c.beside_two.ensures c.beside_one-2.ensures c.beside_two-2.ensures c.beside_three.ensures c.beside_two-3.ensures c.beside_three-2.ensures c.beside_four.ensures
