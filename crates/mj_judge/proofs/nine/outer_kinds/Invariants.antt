use Rattle.std.proofs.Common.{◌≡◌, ◌≤◌}
use Rattle.mj_deeds.specs.Facts.{concealed_tiles}
use Rattle.mj_deeds.specs.Hand.{hand}
use Rattle.mj_judge.proofs.Outer.{outer_below}
use Rattle.mj_judge.proofs.nine.outer_kinds.Given as goal

abbrev pub invariant-loop-number : goal.invariant-loop-number
invariant-loop-number l = record { value : l.held ≡ outer_below (concealed_tiles (hand l.table.deeds) l.seat) l.number; within : l.held ≤ l.number }
