-- A number's text and the number that a text writes are inverse to each other, below 2 ^ 64.
use Rattle.std.proofs.Common.{◌≡◌, ℕ, ◌+◌, ◌^◌, ◌<◌, List, [], ◌∷◌, length, Bool, true, false, refl, ap, sym, ◌∙◌, arith, cond, get_or, rules, zero, suc, lit<}
use Rattle.std.specs.Prelude.{Some, None, nat_lt}
use Rattle.std.specs.Fmt.{decimal}
use Rattle.std.proofs.lemmas.Str.Parse.{IsNumeralModel, numerals_by_weight}
use Rattle.std.proofs.lemmas.Fmt.{digits_decimal, digits_value-decimal, decimal-digits_value, first_decimal, decimal_nonempty, decimal_digit}
use Rattle.std.proofs.lemmas.Bool.{ltb-true, eqb-false}
use Rattle.mj_bytes.specs.Numbers.{number_text, decimal_of, bounded_value, has_leading_zero, all_digits, digits_value}
use Rattle.mj_bytes.proofs.DigitLaws.{bounded_value-whole}

own : IsNumeralModel (λ ds. all_digits ds ≡ true) digits_value
own = numerals_by_weight _ (search rules) digits_value (search rules)

-- what a text without a leading zero writes is what its digits say
decimal_of-bounded : (text : List ℕ) → 0 < length text → has_leading_zero text ≡ false → decimal_of text ≡ bounded_value text
decimal_of-bounded [] h z = absurd (omega arith)
decimal_of-bounded (b ∷ bs) h z = rw z

has_leading_zero-other : (text : List ℕ) → 48 < get_or text 0 0 → has_leading_zero text ≡ false
has_leading_zero-other [] h = refl
has_leading_zero-other (b ∷ []) h = refl
has_leading_zero-other (b ∷ c ∷ bs) h = grind arith

has_leading_zero-decimal : (n : ℕ) → n < 2 ^ 64 → has_leading_zero (decimal n) ≡ false
has_leading_zero-decimal zero h = ap has_leading_zero (decimal_digit 0 (lit< tt))
has_leading_zero-decimal (suc m) h = has_leading_zero-other (decimal (suc m)) (first_decimal (suc m) (omega arith) h)

pub decimal_of-number_text : (n : ℕ) → n < 2 ^ 64 → decimal_of (number_text n) ≡ Some n
decimal_of-number_text n h =
    let worth : digits_value (decimal n) ≡ n = digits_value-decimal own n h in
    let small : digits_value (decimal n) < 2 ^ 64 = omega arith in
    decimal_of-bounded (decimal n) (decimal_nonempty n h) (has_leading_zero-decimal n h) ∙ (bounded_value-whole (decimal n) (digits_decimal own n h) small ∙ ap Some worth)

-- a number below ten is its one digit
pub one_digit : (n : ℕ) → n < 10 → number_text n ≡ (48 + n) ∷ []
one_digit n h = decimal_digit n h

-- what the tests of `decimal_of` say where there is a number
pub record Read (zeros digits small : Bool) (worth n : ℕ) : Type 0 where
  pub zeros_is : zeros ≡ false
  pub digits_is : digits ≡ true
  pub small_is : small ≡ true
  pub worth_is : worth ≡ n

is_read : (zeros digits small : Bool) (worth n : ℕ) → cond zeros None (cond digits (cond small (Some worth) None) None) ≡ Some n → Read zeros digits small worth n
is_read true digits small worth n h = cc
is_read false false small worth n h = cc
is_read false true false worth n h = cc
is_read false true true worth n h = record { zeros_is = refl; digits_is = refl; small_is = refl; worth_is = cc }

first_not_zero : (b : ℕ) (bs : List ℕ) → has_leading_zero (b ∷ bs) ≡ false → b ≡ 48 → length (b ∷ bs) ≡ 1
first_not_zero b [] h e = refl
first_not_zero b (c ∷ bs) h e = absurd (eqb-false b 48 h e)

pub number_text-decimal_of : (text : List ℕ) (n : ℕ) → decimal_of text ≡ Some n → text ≡ number_text n
number_text-decimal_of [] n h = cc
number_text-decimal_of (b ∷ bs) n h =
    let text = b ∷ bs in
    let r = is_read (has_leading_zero text) (all_digits text) (nat_lt (digits_value text) (2 ^ 64)) (digits_value text) n h in
    sym (decimal-digits_value own text r.digits_is (omega arith) (first_not_zero b bs r.zeros_is) (ltb-true (digits_value text) (2 ^ 64) r.small_is)) ∙ ap decimal r.worth_is
