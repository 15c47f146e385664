use Rattle.std.proofs.Common.{◌≡◌, ◌<◌, ◌^◌, ℕ, List, take, true}
use Rattle.mj_bytes.specs.Numbers.{all_digits, digits_value}
use Rattle.mj_bytes.proofs.numbers.value_of_digits.Given as goal

-- what was read so far is digits, and the value is theirs
pub record ReadSoFar (text : List ℕ) (value at : ℕ) : Type 0 where
  pub digits : all_digits (take at text) ≡ true
  pub worth : value ≡ digits_value (take at text)
  pub fits : value < 2 ^ 64

abbrev pub invariant-loop-byte : goal.invariant-loop-byte
invariant-loop-byte l = ReadSoFar l.text l.value l.byte-index
