use Rattle.std.proofs.Common.{◌≡◌, ◌+◌, ◌≤◌, true, [], length}
use Rattle.std.specs.List.{list_all}
use Rattle.mj_bytes.specs.Parts.{whole_lines, unfinished}
use Rattle.mj_wall.specs.Places.{is_wall}
use Rattle.mj_history.specs.Arrivals.{intake_from}
use Rattle.mj_refereeing.specs.Inner.Intake.{intake_with_walls}
use Rattle.mj_refereeing.proofs.intake.take_headed.Given as goal

abbrev pub invariant-loop-line : goal.invariant-loop-line
invariant-loop-line l = record {
  same : intake_from (intake_with_walls l.rules []) 2 (whole_lines l.input) (unfinished l.input) ≡ intake_from
      (intake_with_walls l.rules l.walls.items) l.number (whole_lines l.rest) (unfinished l.rest);
  few : length l.walls.items ≤ 200;
  whole : list_all (is_wall l.rules.red) l.walls.items ≡ true;
  count : l.number + length l.rest ≤ length l.input + 2;
}

abbrev pub decreases-loop-line : goal.decreases-loop-line
decreases-loop-line l = length l.rest
