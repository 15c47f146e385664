-- Sets of rows by the rows that they have, and the rows of a list.
use Rattle.std.proofs.Common.{ℕ, ◌≡◌, ◌<◌, ◌≤◌, ◌^◌, Bool, true, false, List, [], ◌∷◌, refl, arith, leb, zero, suc, get_or}
use Rattle.std.specs.List.{list_all}
use Rattle.std.proofs.lemmas.Nat.Bits.{bit_at_above}
use Rattle.std.proofs.lemmas.Bool.Decides.{nat_tests}
use Rattle.mj_yaku.specs.Rows.{has_row}
use Rattle.mj_yaku.specs.Han.{han, table, closed_han, open_han}

-- A number above 44 is no row of a set.
pub has_row-above : (set row : ℕ) → set < 2 ^ 45 → 45 ≤ row → has_row set row ≡ false
unfolding has_row
has_row-above set row small above = rw (bit_at_above set 45 row small above) refl

-- No number of a list of numbers up to 100 is greater.
up_to_100 : (numbers : List ℕ) (place : ℕ) → list_all (λ number. leb number 100) numbers ≡ true → get_or numbers place 0 ≤ 100
up_to_100 [] place all = omega arith
up_to_100 (number ∷ numbers) zero all = grind (arith, nat_tests)
up_to_100 (number ∷ numbers) (suc place) all = up_to_100 numbers place (grind (arith, nat_tests))

-- No row has more than 100 han.
pub most_han : (row : ℕ) (closed : Bool) → han row closed ≤ 100
unfolding han closed_han open_han table
most_han row true = up_to_100 closed_han row refl
most_han row false = up_to_100 open_han row refl
