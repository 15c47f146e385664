use Rattle.std.proofs.Common.{◌≡◌, ◌≤◌, ◌*◌, ◌==◌, map, take}
use Rattle.std.specs.Prelude.{count_by, flat_map}
use Rattle.mj_readings.specs.Sets.{set_of_meld, tiles_of_set}
use Rattle.mj_judge.proofs.measure.melded.Given as goal

abbrev pub invariant-loop-meld : goal.invariant-loop-meld
invariant-loop-meld l = (l.number ≡ count_by (λ tile. tile == l.kind) (flat_map tiles_of_set (map set_of_meld (take l.meld-index l.melds)))) × (l.number ≤ 4 * l.meld-index)
