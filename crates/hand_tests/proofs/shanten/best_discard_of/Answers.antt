use Rattle.hand_tests.proofs.Again.{no_melds}
use Rattle.hand_tests.proofs.shanten.best_discard_of.Goals as goal

pub missing-missing-requires-clause-room : goal.missing-missing-requires-clause-room
missing-missing-requires-clause-room c = no_melds c.args.counts.now _ c.in-Some.ensures

pub best_discard_of-requires-clause-room : goal.best_discard_of-requires-clause-room
best_discard_of-requires-clause-room c = no_melds c.args.counts.now _ c.in-Some.ensures
