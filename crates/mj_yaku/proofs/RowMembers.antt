-- The rows that a set made of a list of answers has.
use Rattle.std.proofs.Common.{ℕ, ◌≡◌, ◌<◌, ◌+◌, ◌||◌, Bool, true, false, List, [], ◌∷◌, refl, ◌∙◌, ap, arith, zero, suc, eqb, get_or}
use Rattle.std.proofs.lemmas.Nat.Bits.{bit_at-zero}
use Rattle.std.proofs.lemmas.Bool.Decides.{nat_tests}
use Rattle.mj_tiles.proofs.Bits.{has_bit-with}
use Rattle.mj_yaku.specs.Rows.{has_row, no_rows, with_row, rows_from}

-- The set without rows has none.
pub has_row-none : (row : ℕ) → has_row no_rows row ≡ false
unfolding has_row no_rows
has_row-none row = rw bit_at-zero refl

-- A set and one row more has that row and those that it had.
pub has_row-with : (set row other : ℕ) → has_row (with_row set row) other ≡ (eqb row other || has_row set other)
unfolding has_row with_row
has_row-with set row other = has_bit-with set row other

-- The rows from a number on have no row below it.
has_row-below : (rows : List Bool) (from row : ℕ) → row < from → has_row (rows_from from rows) row ≡ false
unfolding rows_from
has_row-below [] from row below = has_row-none row
has_row-below (true ∷ rows) from row below =
    has_row-with (rows_from (from + 1) rows) from row
    ∙ grind (arith, nat_tests, has_row-below rows (from + 1) row (omega arith))
has_row-below (false ∷ rows) from row below = has_row-below rows (from + 1) row (omega arith)

-- The rows from a number on have just the rows of which the list says so.
pub has_row-from : (rows : List Bool) (from place : ℕ) → has_row (rows_from from rows) (from + place) ≡ get_or rows place false
unfolding rows_from
has_row-from [] from place = has_row-none (from + place)
has_row-from (true ∷ rows) from zero =
    has_row-with (rows_from (from + 1) rows) from (from + zero) ∙ grind (arith, nat_tests)
has_row-from (false ∷ rows) from zero = has_row-below rows (from + 1) (from + zero) (omega arith)
has_row-from (true ∷ rows) from (suc place) =
    has_row-with (rows_from (from + 1) rows) from (from + suc place)
    ∙ grind (arith, nat_tests, next rows from place (has_row-from rows (from + 1) place))
  where
    next : (rows : List Bool) (from place : ℕ) → has_row (rows_from (from + 1) rows) (from + 1 + place) ≡ get_or rows place false →
        has_row (rows_from (from + 1) rows) (from + suc place) ≡ get_or rows place false
    next rows from place h =
        let same : from + suc place ≡ from + 1 + place = omega arith in
        ap (has_row (rows_from (from + 1) rows)) same ∙ h
has_row-from (false ∷ rows) from (suc place) =
    let same : from + suc place ≡ from + 1 + place = omega arith in
    ap (has_row (rows_from (from + 1) rows)) same ∙ has_row-from rows (from + 1) place

-- Where a list says of no row that it holds, its rows are none.
pub some_row : (rows : List Bool) (from : ℕ) → eqb (rows_from from rows) no_rows ≡ false → (place : ℕ) × (get_or rows place false ≡ true)
unfolding rows_from no_rows
some_row [] from h = absurd (grind (arith, nat_tests))
some_row (true ∷ rows) from h = (zero, refl)
some_row (false ∷ rows) from h =
    let rest = some_row rows (from + 1) h in
    (suc rest.0, rest.1)
