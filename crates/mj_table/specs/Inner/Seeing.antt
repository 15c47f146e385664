-- What a seat sees, by what was brought in and what the seats hold.
use Rattle.std.specs.Prelude.{ℕ, ◌-◌, ◌==◌, Bool, if◌then◌else◌, List, slice_index}
use Rattle.mj_tiles.specs.Counts.{number_of}
use Rattle.mj_deeds.specs.declared.four.Four.{Four}
use Rattle.mj_table.specs.Inner.Kept.{tiles_held}

-- How many tiles of a kind are hidden where there are so many of each face: none of the own ones.
abbrev pub hidden : List ℕ → Bool → ℕ → ℕ
hidden held own kind = if own then 0 else number_of (tiles_held held) kind

-- How many tiles of a kind a seat sees: those that were brought in, less what the others hold.
abbrev pub seen_of : List ℕ → Four (List ℕ) → ℕ → ℕ → ℕ
seen_of brought held seat kind =
    slice_index brought kind - hidden held.first (seat == 0) kind - hidden held.second (seat == 1) kind
    - hidden held.third (seat == 2) kind - hidden held.fourth (seat == 3) kind
