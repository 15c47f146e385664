-- All readings of a hand in a list.
use Rattle.std.specs.Prelude.{ℕ, ◌-◌, ◌==◌, nat_le, if◌then◌else◌, List, [], ◌∷◌, ◌++◌, length, map, slice_index, None}
use Rattle.std.specs.List.{slice_index_or}
use Rattle.std.specs.Option.{option_to_list}
use Rattle.mj_tiles.specs.Kinds.{kinds_that}
use Rattle.mj_tiles.specs.declared.meld.Meld.{Meld}
use Rattle.mj_readings.specs.declared.reading.Set.{Set}
use Rattle.mj_readings.specs.declared.reading.Reading.{Reading}
use Rattle.mj_readings.specs.declared.reading.Reading.TheVariants.{Standard, Pairs, Orphans}
use Rattle.mj_readings.specs.declared.winning_way.WinningWay.{WinningWay}
use Rattle.mj_readings.specs.Sets.{set_of_meld}
use Rattle.mj_readings.specs.Inner.SetLists.{no_set}
use Rattle.mj_readings.specs.Complete.{is_seven_pairs}
use Rattle.mj_readings.specs.Inner.Ways.{Way, ways}
use Rattle.mj_readings.specs.Inner.WinningWays.{winning_ways}
use Rattle.mj_readings.specs.Tests.{orphan_double}

-- Four sets and a pair as a reading.
abbrev pub standard : List Set → ℕ → ℕ → ℕ → Reading
standard sets pair win winning =
    Standard (slice_index_or sets 0 no_set) (slice_index_or sets 1 no_set) (slice_index_or sets 2 no_set) (slice_index_or sets 3 no_set) pair win winning

abbrev pub standard_of : List Meld → ℕ → WinningWay → Reading
standard_of melds winning winning_way = standard (winning_way.sets ++ map set_of_meld melds) winning_way.pair winning_way.win winning

-- The reading of sets of concealed tiles and a pair where the winning tile is at this place.
abbrev pub with_win : List Meld → ℕ → List Set → ℕ → ℕ → Reading
with_win melds winning sets pair win = standard_of melds winning (record { sets = sets; pair = pair; win = win })

-- The readings of some ways, after these sets.
abbrev pub readings_past : List Meld → ℕ → List Set → List Way → List Reading
readings_past melds winning sets list = map (standard_of melds winning) (winning_ways sets winning list)

unfoldable pub standard_readings : List ℕ → List Meld → ℕ → List Reading
standard_readings counts melds winning =
    if nat_le (length melds) 4
    then map (standard_of melds winning) (winning_ways [] winning (ways counts 0 0 0 (4 - length melds) None))
    else []

-- The kinds that stand twice.
abbrev pub pair_kinds : List ℕ → ℕ
pair_kinds counts = kinds_that (λ kind. slice_index counts kind == 2)

unfoldable pub pairs_readings : List ℕ → List Reading
pairs_readings counts = if is_seven_pairs counts then Pairs (pair_kinds counts) ∷ [] else []

unfoldable pub orphans_readings : List ℕ → List Reading
orphans_readings counts = map Orphans (option_to_list (orphan_double counts))
