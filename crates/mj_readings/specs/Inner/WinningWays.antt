-- The standard readings of concealed tiles: each way with each place of the winning tile.
use Rattle.std.specs.Prelude.{ℕ, ◌≡◌, ◌+◌, ◌++◌, List, length, map, filter, flat_map, slice_get, Some, Result, Ok, Err}
use Rattle.std.specs.List.{range_with_len}
use Rattle.mj_readings.specs.declared.reading.Set.{Set}
use Rattle.mj_readings.specs.declared.winning_way.WinningWay.{WinningWay}
use Rattle.mj_readings.specs.Readings.{names_winning}
use Rattle.mj_readings.specs.Inner.Ways.{Way}

-- The item of a list at this place, or how far after the end the place is.
abbrev pub Picks : {X : Type 0} → List X → ℕ → Result X ℕ → Type 0
Picks items place (Ok item) = slice_get items place ≡ Some item
Picks items place (Err rest) = place ≡ length items + rest

-- The places that the winning tile may have.
unfoldable pub win_places : List Set → ℕ → ℕ → List ℕ
win_places sets pair winning = filter (names_winning sets pair winning) (range_with_len 0 5)

abbrev pub winning_ways_of : List Set → ℕ → Way → List WinningWay
winning_ways_of sets winning way =
    map (λ win. record { sets = sets ++ way.sets; pair = way.pair; win = win }) (win_places (sets ++ way.sets) way.pair winning)

-- The ways, after these sets, each with the places of the winning tile.
unfoldable pub winning_ways : List Set → ℕ → List Way → List WinningWay
winning_ways sets winning list = flat_map (winning_ways_of sets winning) list
