use Rattle.std.proofs.Common.{◌≡◌, ◌≤◌, ◌*◌, take}
use Rattle.mj_rules.specs.Wins.{dora_by}
use Rattle.mj_machine.proofs.worth.dora_by.Given as goal

abbrev pub invariant-loop-indicator : goal.invariant-loop-indicator
invariant-loop-indicator l = (l.dora ≡ dora_by (take l.indicator-index l.indicators) l.tiles) × (l.dora ≤ 18 * l.indicator-index)
