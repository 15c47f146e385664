use Rattle.std.proofs.Common.{◌≡◌, ◌+◌, ◌-◌}
use Rattle.mj_records.specs.Inner.Lists.{marks_at, marks_from}
use Rattle.mj_records.proofs.lists.marks_at.Given as goal

abbrev pub invariant-loop-before : goal.invariant-loop-before
invariant-loop-before l = marks_at l.text ≡ marks_from (255 - l.before) (l.before + 1) l.rest
