-- The order of sets of rows, by a walk over the rows.
use Rattle.std.specs.Prelude.{ℕ, Bool, false, not, if◌then◌else◌, List, [], ◌∷◌}
use Rattle.std.specs.List.{list_any}
use Rattle.mj_yaku.specs.Rows.{has_row}

-- Of the first row that only one of two sets has: the one that has it comes first where the other has a later one.
unfoldable pub first_difference : ℕ → ℕ → List ℕ → Bool
first_difference one other [] = false
first_difference one other (row ∷ later) =
    if has_row one row
    then (if has_row other row then first_difference one other later else list_any (has_row other) later)
    else (if has_row other row then not (list_any (has_row one) later) else first_difference one other later)
