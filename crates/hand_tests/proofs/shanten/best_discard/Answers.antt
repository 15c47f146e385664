use Rattle.hand_tests.proofs.Again.{no_melds}
use Rattle.hand_tests.proofs.shanten.best_discard.Goals as goal

pub best_discard-requires-clause-room : goal.best_discard-requires-clause-room
best_discard-requires-clause-room c = no_melds c.args.counts.now _ c.in-Some.ensures
