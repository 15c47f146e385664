-- Yaku of the way in which a hand was won.
use Rattle.std.specs.Prelude.{◌==◌, Bool, true, false, not, ◌&&◌}
use Rattle.mj_readings.specs.declared.reading.Case.{Case}
use Rattle.mj_readings.specs.declared.reading.Riichi.{Riichi}
use Rattle.mj_readings.specs.declared.reading.Riichi.TheVariants.{No, Single, Double}

abbrev pub is_single : Riichi → Bool
is_single No = false
is_single Single = true
is_single Double = false

abbrev pub is_double : Riichi → Bool
is_double No = false
is_double Single = false
is_double Double = true

-- reach: a closed hand in riichi.
unfoldable pub reach : Case → Bool
reach case = case.closed && is_single case.riichi

-- double_reach: a closed hand in riichi from its first discard on, before any call.
unfoldable pub double_reach : Case → Bool
double_reach case = case.closed && is_double case.riichi

-- ippatsu: a closed hand won within a turn of its riichi, without a call in between.
unfoldable pub is_ippatsu : Case → Bool
is_ippatsu case = case.closed && case.ippatsu

-- menzen_tsumo: a closed hand won by a drawn tile.
unfoldable pub menzen_tsumo : Case → Bool
menzen_tsumo case = case.closed && case.by_draw

-- haitei: won by the last live tile, drawn, and no replacement.
unfoldable pub haitei : Case → Bool
haitei case = case.by_draw && case.last && not case.rinshan

-- houtei: won by the discard after the last live tile, and no robbed kan.
unfoldable pub houtei : Case → Bool
houtei case = not case.by_draw && case.last && not case.robbed

-- rinshan: won by a replacement draw.
unfoldable pub is_rinshan : Case → Bool
is_rinshan case = case.by_draw && case.rinshan

-- chankan: won by the tile of a robbed added kan.
unfoldable pub chankan : Case → Bool
chankan case = not case.by_draw && case.robbed

-- A closed hand won by the winner's first draw, with no chi, pon or kan before.
abbrev pub is_first_draw : Case → Bool
is_first_draw case = case.closed && case.by_draw && case.first

-- tenhou: the dealer, whose wind is east, wins at the first draw.
unfoldable pub tenhou : Case → Bool
tenhou case = is_first_draw case && case.seat_wind == 27

-- chiihou: another seat wins at its first draw.
unfoldable pub chiihou : Case → Bool
chiihou case = is_first_draw case && not (case.seat_wind == 27)
