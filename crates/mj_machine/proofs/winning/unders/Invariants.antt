use Rattle.std.proofs.Common.{◌≡◌}
use Rattle.std.specs.Prelude.{map}
use Rattle.std.specs.List.{range_with_len}
use Rattle.mj_wall.specs.Places.{under_tile}
use Rattle.mj_machine.proofs.winning.unders.Given as goal

abbrev pub invariant-loop-place : goal.invariant-loop-place
invariant-loop-place l = l.unders ≡ map (under_tile l.wall) (range_with_len 0 l.place)
