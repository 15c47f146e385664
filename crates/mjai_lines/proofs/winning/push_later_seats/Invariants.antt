use Rattle.std.proofs.Common.{map, flat_map, take, ◌∷◌}
use Rattle.std.specs.Prelude.{decimal}
use Rattle.mj_bytes.specs.Adds.{Adds}
use Rattle.mjai_lines.proofs.winning.push_later_seats.Given as goal

abbrev pub invariant-loop-seat : goal.invariant-loop-seat
invariant-loop-seat l =
    Adds l.fn.line.items l.line.items (flat_map (λ other. 44 ∷ other) (map decimal (take l.seat-index l.seats)))
