-- Sets of rows of the table of yaku. A set has a row where the bit of the row's number is one.
use Rattle.std.specs.Prelude.{ℕ, ◌+◌, ◌==◌, ◌^◌, Bool, if◌then◌else◌, List, [], ◌∷◌}
use Rattle.std.specs.Int.{bit_at}
use Rattle.std.specs.Int.Bits.{bit_or}

unfoldable pub has_row : ℕ → ℕ → Bool
has_row set row = bit_at set row == 1

-- The set without any row.
unfoldable pub no_rows : ℕ
no_rows = 0

-- A set and one row more.
unfoldable pub with_row : ℕ → ℕ → ℕ
with_row set row = bit_or set (2 ^ row)

-- The rows that hold, where the list says of each row from this number on whether it does.
unfoldable pub rows_from : ℕ → List Bool → ℕ
rows_from row [] = no_rows
rows_from row (holds ∷ others) =
    if holds then with_row (rows_from (row + 1) others) row else rows_from (row + 1) others
