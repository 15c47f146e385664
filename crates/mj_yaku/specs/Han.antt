-- The han of each row.
use Rattle.std.specs.Prelude.{ℕ, Bool, if◌then◌else◌, List, [], ◌∷◌, ◌++◌, codes, map, slice_index, sum_by}
use Rattle.std.specs.List.{list_any, range_with_len}
use Rattle.mj_yaku.specs.Rows.{has_row}

-- A row of the table of yaku: its name, its han in a closed hand, 100 for a yakuman, and its han in an open one, 0 where it asks for
-- a closed one.
pub record Row : Type 0 where
  pub name : List ℕ
  pub in_closed : ℕ
  pub in_open : ℕ

abbrev pub row : List ℕ → ℕ → ℕ → Row
row name in_closed in_open = record { name = name; in_closed = in_closed; in_open = in_open }

-- The table of yaku. The three rows of dora are no yaku, and have the han of their number.
unfoldable pub table : List Row
table =
    row (codes "reach") 1 0
    ∷ row (codes "double_reach") 2 0
    ∷ row (codes "ippatsu") 1 0
    ∷ row (codes "menzen_tsumo") 1 0
    ∷ row (codes "pinfu") 1 0
    ∷ row (codes "iipeikou") 1 0
    ∷ row (codes "tanyao") 1 1
    ∷ row (codes "seat_wind") 1 1
    ∷ row (codes "round_wind") 1 1
    ∷ row (codes "white") 1 1
    ∷ row (codes "green") 1 1
    ∷ row (codes "red") 1 1
    ∷ row (codes "haitei") 1 1
    ∷ row (codes "houtei") 1 1
    ∷ row (codes "rinshan") 1 1
    ∷ row (codes "chankan") 1 1
    ∷ row (codes "chiitoitsu") 2 0
    ∷ row (codes "toitoi") 2 2
    ∷ row (codes "sanankou") 2 2
    ∷ row (codes "sankantsu") 2 2
    ∷ row (codes "sanshoku_doukou") 2 2
    ∷ row (codes "honroutou") 2 2
    ∷ row (codes "shousangen") 2 2
    ∷ row (codes "sanshoku_doujun") 2 1
    ∷ row (codes "ittsu") 2 1
    ∷ row (codes "chanta") 2 1
    ∷ row (codes "honitsu") 3 2
    ∷ row (codes "junchan") 3 2
    ∷ row (codes "dora") 0 0
    ∷ row (codes "uradora") 0 0
    ∷ row (codes "akadora") 0 0
    ∷ row (codes "ryanpeikou") 3 0
    ∷ row (codes "chinitsu") 6 5
    ∷ row (codes "kokushi") 100 0
    ∷ row (codes "suuankou") 100 0
    ∷ row (codes "daisangen") 100 100
    ∷ row (codes "shousuushi") 100 100
    ∷ row (codes "daisuushi") 100 100
    ∷ row (codes "tsuuiisou") 100 100
    ∷ row (codes "chinroutou") 100 100
    ∷ row (codes "ryuuiisou") 100 100
    ∷ row (codes "chuuren") 100 0
    ∷ row (codes "suukantsu") 100 100
    ∷ row (codes "tenhou") 100 0
    ∷ row (codes "chiihou") 100 0
    ∷ []

-- The two columns of han.
unfoldable pub closed_han : List ℕ
closed_han = map (λ row. row.in_closed) table

unfoldable pub open_han : List ℕ
open_han = map (λ row. row.in_open) table

-- The han of a row.
unfoldable pub han : ℕ → Bool → ℕ
han row closed = slice_index (if closed then closed_han else open_han) row

-- The rows that add up, all but the dora and the yakuman, and the rows of the yakuman.
abbrev pub ordinary_numbers : List ℕ
ordinary_numbers = range_with_len 0 28 ++ 31 ∷ 32 ∷ []

abbrev pub yakuman_numbers : List ℕ
yakuman_numbers = range_with_len 33 12

-- A set of rows has a yakuman.
unfoldable pub has_yakuman : ℕ → Bool
has_yakuman set = list_any (has_row set) yakuman_numbers

-- The han of a row where a set has it.
abbrev pub han_in : ℕ → Bool → ℕ → ℕ
han_in set closed row = if has_row set row then han row closed else 0

-- The han of the rows that add up.
unfoldable pub sum_of_han : ℕ → Bool → ℕ
sum_of_han set closed = sum_by (han_in set closed) ordinary_numbers

-- The han of a set of rows: 100 for a yakuman, and else those of its rows together.
unfoldable pub han_of_rows : ℕ → Bool → ℕ
han_of_rows set closed = if has_yakuman set then 100 else sum_of_han set closed
