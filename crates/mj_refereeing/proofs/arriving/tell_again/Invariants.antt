use Rattle.std.proofs.Common.{◌≡◌, ◌++◌}
use Rattle.mj_refereeing.proofs.Returning.{told_to}
use Rattle.mj_refereeing.proofs.arriving.tell_again.Given as goal

abbrev pub invariant-loop-k : goal.invariant-loop-k
invariant-loop-k l = l.told.items ≡ l.fn.told.items ++ told_to l.k l.due l.core.seat l.core.game
