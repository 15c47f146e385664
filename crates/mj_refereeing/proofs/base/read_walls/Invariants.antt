use Rattle.std.proofs.Common.{◌+◌, ◌<◌, ◌≤◌, length}
use Rattle.mj_refereeing.proofs.BaseLaws.{ReadsTo}
use Rattle.mj_refereeing.proofs.base.read_walls.Given as goal

abbrev pub invariant-loop-line : goal.invariant-loop-line
invariant-loop-line l = record {
  reads : ReadsTo l.rules l.input l.others l.walls.items l.rest l.number;
  count : l.number + length l.rest ≤ length l.others + 2;
  within : length l.rest < length l.input;
}

abbrev pub decreases-loop-line : goal.decreases-loop-line
decreases-loop-line l = length l.rest
