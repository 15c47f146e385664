use Rattle.std.proofs.Common.{◌≡◌, ◌≤◌, ◌*◌, take}
use Rattle.mj_deeds.specs.Facts.{indicators}
use Rattle.mj_deeds.specs.Hand.{hand}
use Rattle.mj_rules.specs.Wins.{dora_by}
use Rattle.mj_machine.proofs.worth.dora_shown.Given as goal

abbrev pub invariant-loop-place : goal.invariant-loop-place
invariant-loop-place l = (l.dora ≡ dora_by (take l.place (indicators (hand l.table.deeds))) l.tiles) × (l.dora ≤ 18 * l.place)
