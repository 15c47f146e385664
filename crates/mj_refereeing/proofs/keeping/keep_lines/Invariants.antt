use Rattle.std.proofs.Common.{◌+◌, ◌≤◌, ℕ, List, length}
use Rattle.mj_bytes.specs.Parts.{whole_lines, unfinished}
use Rattle.mj_history.specs.Legal.{Game}
use Rattle.mj_history.specs.Arrivals.{intake_from}
use Rattle.mj_journal.specs.Journals.{IsAtRest}
use Rattle.mj_journal.specs.Keeping.{game_of, end_of}
use Rattle.mj_refereeing.specs.Inner.Intake.{intake_of}
use Rattle.mj_refereeing.specs.Inner.Keeping.{GoesOn, IsPlayed}
use Rattle.mj_refereeing.proofs.WalkLaws.{Walks}
use Rattle.mj_refereeing.proofs.keeping.keep_lines.Given as goal

abbrev pub invariant-loop-line : goal.invariant-loop-line
invariant-loop-line g l = record {
  walks : (tag : List ℕ) (seat : ℕ) (game : Game) → GoesOn g.D.Disk.told g.D.Disk.may_leave tag seat l.fn.kept l.fn.disk game
      → Walks g.D.Disk.told g.D.Disk.may_leave g.D.Disk.moment g.D.Disk.secured_since tag seat game l.fn.disk l.kept l.disk l.number l.rest
      (intake_from (intake_of game) l.first (whole_lines l.input) (unfinished l.input));
  played : IsPlayed (game_of l.kept) (IsAtRest (g.D.Disk.told l.disk) (g.D.Disk.may_leave l.disk) (end_of l.kept));
  faults : g.D.Disk.disk_faults l.fn.disk ≤ g.D.Disk.disk_faults l.disk;
  count : l.number + length l.rest ≤ length l.input + l.first;
}

abbrev pub decreases-loop-line : goal.decreases-loop-line
decreases-loop-line g l = length l.rest
