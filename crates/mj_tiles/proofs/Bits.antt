-- Sets of small numbers as bits: a number is one of the set where its bit is one.
use Rattle.std.proofs.Common.{ℕ, ◌≡◌, ◌<◌, ◌≤◌, ◌^◌, ◌*◌, ◌%◌, ◌||◌, ◌⊎◌, inl, inr, sym, arith, eqb, max}
use Rattle.std.specs.Int.{bit_at}
use Rattle.std.specs.Int.RustNames.{bit_or}
use Rattle.std.proofs.lemmas.Nat.{or_lt}
use Rattle.std.proofs.Math.Pow.{pow-lt}
use Rattle.std.proofs.lemmas.Nat.Bits.{bit_at_or, bit_at-pow_same, bit_at-pow_other, bit_at-lt}
use Rattle.std.proofs.lemmas.Bool.{cases_eq}
use Rattle.std.proofs.lemmas.Bool.Decides.{nat_tests}

-- A set of numbers below a bound and one more is one: what the code computes in 64 bits.
pub with_bit-within : (bound set number : ℕ) → bound ≤ 64 → set < 2 ^ bound → number < bound → bit_or set (1 * 2 ^ number % 2 ^ 64) < 2 ^ bound
with_bit-within bound set number few small within =
    let power : 2 ^ number < 2 ^ bound = pow-lt within in
    let near : number < 64 = omega (arith, few, within) in
    let fits : 2 ^ number < 2 ^ 64 = pow-lt near in
    let same : 1 * 2 ^ number % 2 ^ 64 ≡ 2 ^ number = omega (arith, fits) in
    or_lt bound set (1 * 2 ^ number % 2 ^ 64) small (rw same power)

-- A set and one number more has that number and those that it had.
pub has_bit-with : (set number other : ℕ) → eqb (bit_at (bit_or set (2 ^ number)) other) 1 ≡ (eqb number other || eqb (bit_at set other) 1)
has_bit-with set number other = rw bit_at_or (with_bit set number other (cases_eq number other))
  where
    bit_here : (number other : ℕ) → number ≡ other → bit_at (2 ^ number) other ≡ 1
    bit_here number other same = rw (← same) (bit_at-pow_same number)

    with_bit : (set number other : ℕ) → (number ≡ other) ⊎ (number ≡ other → ⊥) →
        eqb (max (bit_at set other) (bit_at (2 ^ number) other)) 1 ≡ (eqb number other || eqb (bit_at set other) 1)
    with_bit set number other (inl same) = grind (arith, nat_tests, bit_here number other same, bit_at-lt set other)
    with_bit set number other (inr differ) =
        grind (arith, nat_tests, bit_at-pow_other number other (λ e. differ (sym e)), bit_at-lt set other)
