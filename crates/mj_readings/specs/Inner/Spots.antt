-- The ways from a spot of a walk over the kinds.
use Rattle.std.specs.Prelude.{ℕ, ◌+◌, ◌-◌, ◌&&◌, nat_le, List, [], Option, Some, is_none, if◌then◌else◌}
use Rattle.mj_readings.specs.declared.winning_way.Spot.{Spot}
use Rattle.mj_readings.specs.Inner.Ways.{Way, ways, begin}

abbrev pub ways_from : List ℕ → Spot → List Way
ways_from numbers spot = ways numbers spot.kind spot.first spot.second spot.left spot.pair

-- The ways with so many runs and triplets that begin at the spot's kind, and this pair from there on.
abbrev pub branch_ways : List ℕ → Spot → ℕ → ℕ → Option ℕ → List Way
branch_ways others spot runs triplets pair =
    begin (λ runs left pair. ways others (spot.kind + 1) spot.second runs left pair) spot.kind runs triplets spot.left pair

abbrev pub triplet_ways : List ℕ → Spot → ℕ → List Way
triplet_ways others spot free = if nat_le 3 free then branch_ways others spot (free - 3) 1 spot.pair else []

abbrev pub pair_ways : List ℕ → Spot → ℕ → List Way
pair_ways others spot free = if nat_le 2 free && is_none spot.pair then branch_ways others spot (free - 2) 0 (Some spot.kind) else []
