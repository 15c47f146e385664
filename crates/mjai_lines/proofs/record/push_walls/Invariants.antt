use Rattle.std.proofs.Common.{flat_map, take}
use Rattle.mj_bytes.specs.Adds.{Adds}
use Rattle.mj_forms.specs.Headers.{wall_line}
use Rattle.mjai_lines.proofs.record.push_walls.Given as goal

abbrev pub invariant-loop-wall : goal.invariant-loop-wall
invariant-loop-wall l = Adds l.initial.text.items l.text.items (flat_map wall_line (take l.wall-index l.walls))
