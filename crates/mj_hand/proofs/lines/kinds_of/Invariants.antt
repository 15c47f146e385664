-- What was listed, and what is still to be, is the whole.
use Rattle.std.proofs.Common.{◌≡◌, ◌++◌, ◌-◌}
use Rattle.mj_shanten.specs.Shanten.{sorted_kinds}
use Rattle.mj_hand.proofs.TextSteps.{sorted_from}
use Rattle.mj_hand.proofs.lines.kinds_of.Given as goal

abbrev pub invariant-loop-number : goal.invariant-loop-number
invariant-loop-number l = l.kinds.items ++ sorted_from l.counts l.number (34 - l.number) ≡ sorted_kinds l.counts
