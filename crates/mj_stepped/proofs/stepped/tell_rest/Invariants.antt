use Rattle.std.proofs.Common.{◌≡◌, ◌-◌, length}
use Rattle.mj_stepped.specs.Lists.{IsFront}
use Rattle.mj_stepped.proofs.stepped.tell_rest.Given as goal

abbrev pub invariant-loop-deed : goal.invariant-loop-deed
invariant-loop-deed l = (l.told.rules ≡ l.fn.told.rules) × IsFront l.told.deeds l.number l.deeds

abbrev pub decreases-loop-deed : goal.decreases-loop-deed
decreases-loop-deed l = length l.deeds - l.number
