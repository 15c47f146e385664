use Rattle.std.proofs.Common.{◌≡◌, ◌≤◌}
use Rattle.mj_rules.specs.View.{view_of}
use Rattle.mj_bot.proofs.Lawful.{passes, kinds_from}
use Rattle.mj_bot.proofs.discards.lawful_kinds.Given as goal

abbrev pub invariant-loop-place : goal.invariant-loop-place
invariant-loop-place l = (l.place ≤ 37) × (l.kinds ≡ kinds_from (passes l.table.rules l.seat (view_of l.table.deeds l.seat)) l.place)

abbrev pub decreases-loop-place : goal.decreases-loop-place
decreases-loop-place l = l.place
