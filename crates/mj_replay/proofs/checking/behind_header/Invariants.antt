use Rattle.std.proofs.Common.{◌≡◌, ◌≤◌, ◌++◌, true, [], length}
use Rattle.std.specs.List.{list_all}
use Rattle.mj_wall.specs.Places.{is_wall}
use Rattle.mj_forms.specs.Headers.{header_line}
use Rattle.mj_forms.specs.RecordTexts.{record_text}
use Rattle.mj_replay.proofs.checking.behind_header.Given as goal

abbrev pub invariant-loop-line : goal.invariant-loop-line
invariant-loop-line l = record {
  said : header_line l.rules ++ l.text ≡ record_text l.rules l.walls.items [] ++ l.rest;
  few : length l.walls.items ≤ 200;
  whole : list_all (is_wall l.rules.red) l.walls.items ≡ true;
  none : l.kept.items ≡ [];
}

abbrev pub decreases-loop-line : goal.decreases-loop-line
decreases-loop-line l = length l.rest
