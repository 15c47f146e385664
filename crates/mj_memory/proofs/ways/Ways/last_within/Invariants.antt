-- Each discard of the suits gone through leaves more.
use Rattle.std.proofs.Common.{◌*◌, ◌≤◌}
use Rattle.mj_shanten.proofs.BestDiscard.{MoreFrom}
use Rattle.mj_memory.proofs.ways.Ways.last_within.Given as goal

abbrev pub invariant-loop-suit : goal.invariant-loop-suit
invariant-loop-suit l = record {
  few : l.suit ≤ 4;
  more : MoreFrom l.self.counts l.self.room l.melds l.kinds l.most (9 * l.suit);
}

abbrev pub decreases-loop-suit : goal.decreases-loop-suit
decreases-loop-suit l = l.suit
