-- What a reading is worth, and which of two scores is the better one.
use Rattle.std.specs.Prelude.{ℕ, ◌+◌, ◌==◌, Bool, true, false, nat_lt, ◌&&◌, ◌||◌, if◌then◌else◌, List, [], ◌∷◌, filter}
use Rattle.std.specs.List.{range_with_len}
use Rattle.mj_tiles.specs.declared.meld.Meld.{Meld}
use Rattle.mj_readings.specs.declared.reading.Case.{Case}
use Rattle.mj_readings.specs.declared.reading.Reading.{Reading}
use Rattle.mj_fu.specs.Fu.{fu_of}
use Rattle.mj_yaku.specs.Rows.{has_row}
use Rattle.mj_yaku.specs.Han.{has_yakuman, han_of_rows}
use Rattle.mj_yaku.specs.Yaku.{yaku_of}
use Rattle.mj_pay.specs.Payments.{base_of}
use Rattle.mj_score.specs.declared.score.Extra.{Extra}
use Rattle.mj_score.specs.declared.score.Score.{Score}

-- All dora together: those of the shown and of the hidden indicators, and the red fives.
abbrev pub all_dora : Extra → ℕ
all_dora extra = extra.dora + extra.under + extra.red

-- A yakuman has 100 han and no fu, and dora isn't counted.
abbrev pub yakuman_score : ℕ → Score
yakuman_score rows = record { han = 100; fu = 0; yaku = rows; base = 8000 }

-- Any other reading has the han of its rows and of all dora, and its fu.
abbrev pub ordinary_score : ℕ → ℕ → ℕ → Score
ordinary_score rows han fu = record { han = han; fu = fu; yaku = rows; base = base_of han fu }

-- The score of a reading with these rows.
unfoldable pub score_of_rows : ℕ → Reading → Case → Extra → Score
score_of_rows rows reading case extra =
    if has_yakuman rows then yakuman_score rows
    else ordinary_score rows (han_of_rows rows case.closed + all_dora extra) (fu_of reading case)

-- The score of a reading.
abbrev pub score_of : List Meld → Case → Extra → Reading → Score
score_of melds case extra reading = score_of_rows (yaku_of reading melds case) reading case extra

-- The rows of a set, in order.
unfoldable pub rows_of : ℕ → List ℕ
rows_of set = filter (has_row set) (range_with_len 0 45)

-- A list of rows comes before another where it has the lesser row at the first place where they differ, or ends there.
unfoldable pub comes_before : List ℕ → List ℕ → Bool
comes_before [] [] = false
comes_before [] (other ∷ others) = true
comes_before (one ∷ ones) [] = false
comes_before (one ∷ ones) (other ∷ others) = nat_lt one other || (one == other && comes_before ones others)

-- One number is greater than the other, or they are equal and this holds.
abbrev pub greater_or : ℕ → ℕ → Bool → Bool
greater_or one other rest = nat_lt other one || (one == other && rest)

-- One score is better than another: it has more base points, or as many and more han, or as many of both and more fu,
-- or as many of all three and rows that come before the other's.
unfoldable pub is_better : Score → Score → Bool
is_better one other =
    greater_or one.base other.base
    (greater_or one.han other.han
    (greater_or one.fu other.fu (comes_before (rows_of one.yaku) (rows_of other.yaku))))
