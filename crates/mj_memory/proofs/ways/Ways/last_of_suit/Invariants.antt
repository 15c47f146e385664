-- Each discard of the suit from here on leaves more.
use Rattle.std.proofs.Common.{◌≡◌, ◌+◌, ◌*◌, ◌≤◌}
use Rattle.mj_memory.proofs.Discarding.{MoreInSuit}
use Rattle.mj_memory.proofs.ways.Ways.last_of_suit.Given as goal

abbrev pub invariant-loop-number : goal.invariant-loop-number
invariant-loop-number l = record {
  first : l.first ≡ 9 * l.suit;
  from : 9 * l.suit ≤ l.number;
  low : l.number ≤ 34;
  inside : l.number ≤ 9 * l.suit + 9;
  more : MoreInSuit l.self.counts l.self.room l.melds l.kinds l.most l.suit l.number;
}

abbrev pub decreases-loop-number : goal.decreases-loop-number
decreases-loop-number l = l.number
