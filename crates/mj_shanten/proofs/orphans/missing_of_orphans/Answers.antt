use Rattle.std.proofs.Common.{arith}
use Rattle.std.proofs.lemmas.Bool.{MatchBool-at_true, MatchBool-at_false}
use Rattle.mj_shanten.proofs.Special.{singles_few, orphans_twice, orphans_single}
use Rattle.mj_shanten.proofs.orphans.missing_of_orphans.Goals as goal

pub overflow_add-result : goal.overflow_add-result
overflow_add-result c = (let few = singles_few c.args.held.now in omega (arith, few, c.missing_tiles-singles.ensures))

pub returns-then-holds_double : goal.returns-then-holds_double
returns-then-holds_double c = orphans_twice _ _ c.missing_tiles-singles.ensures (omega arith) (MatchBool-at_true _ _ c.if-holds_double.true c.holds_double.ensures)

pub returns-else-holds_double : goal.returns-else-holds_double
returns-else-holds_double c = orphans_single _ _ c.missing_tiles-singles.ensures (omega arith) (MatchBool-at_false _ _ c.if-holds_double.false c.holds_double.ensures)
