use Rattle.std.proofs.Common.{◌≡◌, ◌+◌, ◌≤◌, length}
use Rattle.mj_bytes.specs.Parts.{whole_lines, unfinished}
use Rattle.mj_history.specs.Arrivals.{intake_from}
use Rattle.mj_refereeing.specs.Inner.Intake.{intake_of, InPlay}
use Rattle.mj_refereeing.proofs.intake.take_each.Given as goal

abbrev pub invariant-loop-line : goal.invariant-loop-line
invariant-loop-line l = record {
  same : intake_from (intake_of l.fn.core.game) l.first (whole_lines l.input) (unfinished l.input) ≡ intake_from (intake_of l.core.game) l.number (whole_lines l.rest) (unfinished l.rest);
  play : InPlay l.fn.core.seat l.core.game l.told.items;
  seat : l.core.seat ≡ l.fn.core.seat;
  count : l.number + length l.rest ≤ length l.input + l.first;
}

abbrev pub decreases-loop-line : goal.decreases-loop-line
decreases-loop-line l = length l.rest
