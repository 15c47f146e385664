-- The table of yaku, and the yaku of a reading.
use Rattle.std.specs.Prelude.{ℕ, ◌+◌, Bool, false, List, [], ◌∷◌, ◌++◌, position}
use Rattle.std.specs.List.{slice_index_or}
use Rattle.std.specs.Option.{option_map_or}
use Rattle.mj_tiles.specs.declared.meld.Meld.{Meld}
use Rattle.mj_readings.specs.declared.reading.Case.{Case}
use Rattle.mj_readings.specs.declared.reading.Reading.{Reading}
use Rattle.mj_fu.specs.Forms.{is_pinfu}
use Rattle.mj_yaku.specs.Rows.{no_rows, with_row, rows_from}
use Rattle.mj_yaku.specs.WholeHand.{tanyao, honroutou, honitsu, chinitsu, tsuuiisou, chinroutou, ryuuiisou}
use Rattle.mj_yaku.specs.Wins.{reach, double_reach, is_ippatsu, menzen_tsumo, haitei, houtei, is_rinshan, chankan, tenhou, chiihou}
use Rattle.mj_yaku.specs.SetForms.{triple_of, chiitoitsu, toitoi, sanankou, suuankou, sankantsu, suukantsu, shousangen, daisangen, shousuushi, daisuushi}
use Rattle.mj_yaku.specs.Numbers.{iipeikou, ryanpeikou, sanshoku_doukou, sanshoku_doujun, ittsu, chanta, junchan}
use Rattle.mj_yaku.specs.Limits.{kokushi, chuuren}

-- Whether each of the rows 0 to 32 holds. Rows 28 to 30 are the dora, which are no yaku.
unfoldable pub ordinary_rows : Reading → Case → List Bool
ordinary_rows reading case =
    reach case
    ∷ double_reach case
    ∷ is_ippatsu case
    ∷ menzen_tsumo case
    ∷ is_pinfu reading case
    ∷ iipeikou reading case
    ∷ tanyao reading
    ∷ triple_of case.seat_wind reading
    ∷ triple_of case.round_wind reading
    ∷ triple_of 31 reading
    ∷ triple_of 32 reading
    ∷ triple_of 33 reading
    ∷ haitei case
    ∷ houtei case
    ∷ is_rinshan case
    ∷ chankan case
    ∷ chiitoitsu reading case
    ∷ toitoi reading
    ∷ sanankou reading case
    ∷ sankantsu reading
    ∷ sanshoku_doukou reading
    ∷ honroutou reading
    ∷ shousangen reading
    ∷ sanshoku_doujun reading
    ∷ ittsu reading
    ∷ chanta reading
    ∷ honitsu reading
    ∷ junchan reading
    ∷ false
    ∷ false
    ∷ false
    ∷ ryanpeikou reading case
    ∷ chinitsu reading
    ∷ []

-- Whether each of the rows 33 to 44 holds: the yakuman.
unfoldable pub yakuman_rows : Reading → List Meld → Case → List Bool
yakuman_rows reading melds case =
    kokushi reading case
    ∷ suuankou reading case
    ∷ daisangen reading
    ∷ shousuushi reading
    ∷ daisuushi reading
    ∷ tsuuiisou reading
    ∷ chinroutou reading
    ∷ ryuuiisou reading
    ∷ chuuren reading melds case
    ∷ suukantsu reading
    ∷ tenhou case
    ∷ chiihou case
    ∷ []

-- Whether a row holds.
unfoldable pub holds : ℕ → Reading → List Meld → Case → Bool
holds row reading melds case =
    slice_index_or (ordinary_rows reading case ++ yakuman_rows reading melds case) row false

-- The yaku of a reading: the first yakuman alone where one holds, and else all rows that hold.
unfoldable pub yaku_of : Reading → List Meld → Case → ℕ
yaku_of reading melds case =
    option_map_or
    (λ place. with_row no_rows (33 + place))
    (position (λ row_holds. row_holds) (yakuman_rows reading melds case))
    (rows_from 0 (ordinary_rows reading case))
