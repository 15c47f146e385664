-- Sets of kinds by the kinds that they have.
use Rattle.std.proofs.Common.{ℕ, ◌≡◌, ◌<◌, ◌^◌, ◌&&◌, ◌||◌, Bool, true, false, List, [], ◌∷◌, refl, sym, ◌∙◌, ap, arith, zero, suc, cond, eqb, ltb, leb, ◌+◌, ◌⊎◌, inl, inr, lit<, length, get_or}
use Rattle.std.specs.Int.{bit_at}
use Rattle.std.specs.List.{filter, range_with_len, list_any, All}
use Rattle.std.proofs.lemmas.Nat.{or_lt}
use Rattle.std.proofs.Math.Pow.{pow-lt}
use Rattle.std.proofs.lemmas.Nat.Bits.{same_from_bits_below, bit_at-zero, bit_at-lt}
use Rattle.std.proofs.lemmas.Bool.{cases_eq, eq-eqb, ne_eqb}
use Rattle.std.proofs.lemmas.Bool.Decides.{nat_tests}
use Rattle.std.proofs.lemmas.List.Elements.{All-tail, All-head, All-filter}
use Rattle.std.proofs.lemmas.List.FromFn.{length-range_with_len, get_or-range_with_len}
use Rattle.mj_tiles.specs.Counts.{all_kinds}
use Rattle.mj_tiles.proofs.Bits.{has_bit-with}
use Rattle.mj_tiles.specs.Kinds.{has_kind, no_kinds, with_kind, set_of, kinds_that}

-- A set of kinds and one more is one.
pub with_kind-within : (set kind : ℕ) → set < 2 ^ 34 → kind < 34 → with_kind set kind < 2 ^ 34
unfolding with_kind
with_kind-within set kind small within = or_lt 34 set (2 ^ kind) small (pow-lt within)

-- The set without kinds has none.
pub has_kind-none : (kind : ℕ) → has_kind no_kinds kind ≡ false
unfolding has_kind no_kinds
has_kind-none kind = rw bit_at-zero refl

-- A set and one kind more has that kind and those that it had.
pub has_kind-with : (set kind other : ℕ) → has_kind (with_kind set kind) other ≡ (eqb kind other || has_kind set other)
unfolding has_kind with_kind
has_kind-with set kind other = has_bit-with set kind other

-- Two sets of kinds that have the same kinds are equal.
pub same_kinds : (a b : ℕ) → a < 2 ^ 34 → b < 2 ^ 34 → ((kind : ℕ) → kind < 34 → has_kind a kind ≡ has_kind b kind) → a ≡ b
unfolding has_kind
same_kinds a b small little each = same_from_bits_below 34 a b small little (λ i within. same_bit a b i (each i within))
  where
    same_bit : (a b i : ℕ) → eqb (bit_at a i) 1 ≡ eqb (bit_at b i) 1 → bit_at a i ≡ bit_at b i
    same_bit a b i e = grind (arith, nat_tests, bit_at-lt a i, bit_at-lt b i)

-- A set of kinds below 34 is below 2 ^ 34.
set_of-within : (kinds : List ℕ) → All (λ kind. kind < 34) kinds → set_of kinds < 2 ^ 34
unfolding no_kinds
set_of-within [] each = lit< tt
set_of-within (kind ∷ others) each =
    with_kind-within (set_of others) kind (set_of-within others (All-tail (λ k. k < 34) kind others each)) (All-head (λ k. k < 34) kind others each)

-- The set of a list has the kinds that stand in it.
has_kind-set_of : (kinds : List ℕ) (other : ℕ) → has_kind (set_of kinds) other ≡ list_any (λ kind. eqb kind other) kinds
has_kind-set_of [] other = has_kind-none other
has_kind-set_of (kind ∷ others) other =
    has_kind-with (set_of others) kind other ∙ ap (λ b. eqb kind other || b) (has_kind-set_of others other)

-- A number stands among those of a run that pass a test where it is in the run and passes.
any_that : (test : ℕ → Bool) (from n k : ℕ) → list_any (λ kind. eqb kind k) (filter test (range_with_len from n)) ≡ (leb from k && ltb k (from + n) && test k)
any_that test from zero k = grind (arith, nat_tests)
any_that test from (suc n) k = any_more test from n k (test from) refl (cases_eq from k) (any_that test (from + 1) n k)
  where
    any_more : (test : ℕ → Bool) (from n k : ℕ) (b : Bool) → test from ≡ b → (from ≡ k) ⊎ (from ≡ k → ⊥) →
        list_any (λ kind. eqb kind k) (filter test (range_with_len (from + 1) n)) ≡ (leb (from + 1) k && ltb k (from + 1 + n) && test k) →
        list_any (λ kind. eqb kind k) (cond (test from) (from ∷ filter test (range_with_len (from + 1) n)) (filter test (range_with_len (from + 1) n)))
        ≡ (leb from k && ltb k (from + suc n) && test k)
    any_more test from n k true is (inl same) rest = grind (arith, nat_tests, eq-eqb from k same, ap test same)
    any_more test from n k false is (inl same) rest = grind (arith, nat_tests, ap test same)
    any_more test from n k true is (inr differ) rest = grind (arith, nat_tests, ne_eqb from k differ)
    any_more test from n k false is (inr differ) rest = grind (arith, nat_tests, ne_eqb from k differ)

-- The set of the kinds that pass a test has exactly those.
pub has_kind-kinds_that : (test : ℕ → Bool) (kind : ℕ) → kind < 34 → has_kind (kinds_that test) kind ≡ test kind
unfolding kinds_that all_kinds
has_kind-kinds_that test kind within =
    has_kind-set_of (filter test (range_with_len 0 34)) kind ∙ any_that test 0 34 kind ∙ grind (arith, nat_tests)

pub kinds_that-within : (test : ℕ → Bool) → kinds_that test < 2 ^ 34
unfolding kinds_that all_kinds
kinds_that-within test =
    set_of-within (filter test (range_with_len 0 34)) (All-filter test (λ kind. kind < 34) (range_with_len 0 34) (λ k d inside. below k d inside))
  where
    below : (k d : ℕ) → k < length (range_with_len 0 34) → get_or (range_with_len 0 34) k d < 34
    below k d inside =
        let small : k < 34 = omega (arith, length-range_with_len 0 34) in
        let read : get_or (range_with_len 0 34) k d ≡ 0 + k = get_or-range_with_len 0 34 k d small in
        omega arith

-- A set that has exactly the kinds that pass a test is the set of those.
pub kinds_that-is : (test : ℕ → Bool) (set : ℕ) → set < 2 ^ 34 → ((kind : ℕ) → kind < 34 → has_kind set kind ≡ test kind) → set ≡ kinds_that test
kinds_that-is test set small each =
    same_kinds set (kinds_that test) small (kinds_that-within test) (λ kind within. each kind within ∙ sym (has_kind-kinds_that test kind within))
