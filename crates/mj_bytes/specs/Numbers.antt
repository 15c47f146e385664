-- Numbers as decimal text.
use Rattle.std.specs.Prelude.{ℕ, ℤ, ◌+◌, ◌-◌, ◌*◌, ◌^◌, List, [], ◌∷◌, length, Bool, true, false, Option, Some, None, ◌==◌, nat_lt, if◌then◌else◌}
use Rattle.std.specs.Fmt.{decimal, signed_decimal}
use Rattle.std.specs.Char.{is_ascii_digit}

-- a number is written in decimal digits, without a leading zero, 0 itself as `0`
abbrev pub number_text : ℕ → List ℕ
number_text n = decimal n

-- a negative number has `-` before its size
abbrev pub signed_text : ℤ → List ℕ
signed_text n = signed_decimal n

-- whether a text is made of decimal digits alone
abbrev pub all_digits : List ℕ → Bool
all_digits [] = true
all_digits (b ∷ bs) = if is_ascii_digit b then all_digits bs else false

-- the value of decimal digits: each counts by the power of ten of its place
abbrev pub digits_value : List ℕ → ℕ
digits_value [] = 0
digits_value (b ∷ bs) = (b - 48) * 10 ^ length bs + digits_value bs

-- whether a text has more than one byte, the first of them `0`
abbrev pub has_leading_zero : List ℕ → Bool
has_leading_zero [] = false
has_leading_zero (b ∷ []) = false
has_leading_zero (b ∷ c ∷ bs) = b == 48

-- the value of digits, where it is below 2 ^ 64
abbrev pub bounded_value : List ℕ → Option ℕ
bounded_value text = if all_digits text then (if nat_lt (digits_value text) (2 ^ 64) then Some (digits_value text) else None) else None

-- the number that a text writes: digits, at least one, without a leading zero, that say less than 2 ^ 64
abbrev pub decimal_of : List ℕ → Option ℕ
decimal_of [] = None
decimal_of (b ∷ bs) = if has_leading_zero (b ∷ bs) then None else bounded_value (b ∷ bs)
