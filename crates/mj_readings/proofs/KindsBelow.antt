-- The kinds below a number that pass a test, as a set that grows by one kind after another.
use Rattle.std.proofs.Common.{ℕ, ◌≡◌, ◌<◌, ◌≤◌, ◌^◌, ◌+◌, ◌&&◌, ◌||◌, Bool, true, false, sym, ◌∙◌, ap, arith, eqb, ltb, ◌⊎◌, inl, inr, lit<}
use Rattle.std.proofs.lemmas.Bool.{cases_eq, cases_lt, eq-eqb, ne_eqb, and_left, and_right, le-ltb, lt-ltb}
use Rattle.std.proofs.lemmas.Bool.Decides.{nat_tests}
use Rattle.mj_tiles.specs.Kinds.{no_kinds, with_kind, kinds_that}
use Rattle.mj_tiles.proofs.KindSets.{with_kind-within, has_kind-none, has_kind-with, same_kinds, has_kind-kinds_that, kinds_that-within, kinds_that-is}

-- Tests that agree on the kinds give one set.
pub kinds_that-same : (one other : ℕ → Bool) → ((kind : ℕ) → kind < 34 → one kind ≡ other kind) → kinds_that one ≡ kinds_that other
kinds_that-same one other same =
    same_kinds (kinds_that one) (kinds_that other) (kinds_that-within one) (kinds_that-within other)
    (λ kind within. has_kind-kinds_that one kind within ∙ same kind within ∙ sym (has_kind-kinds_that other kind within))

-- The kinds below a number that pass a test, one kind after another.
abbrev pub kinds_below : (ℕ → Bool) → ℕ → ℕ
kinds_below test n = kinds_that (λ kind. ltb kind n && test kind)

none_within : no_kinds < 2 ^ 34
unfolding no_kinds
none_within = lit< tt

pub kinds_below-none : (test : ℕ → Bool) → no_kinds ≡ kinds_below test 0
kinds_below-none test =
    kinds_that-is (λ kind. ltb kind 0 && test kind) no_kinds none_within
    (λ kind within. has_kind-none kind ∙ sym (and_left (ltb kind 0) (test kind) (le-ltb kind 0 (omega arith))))

pub kinds_below-yes : (test : ℕ → Bool) (n : ℕ) → n < 34 → test n ≡ true → with_kind (kinds_below test n) n ≡ kinds_below test (n + 1)
kinds_below-yes test n within passes =
    kinds_that-is (λ kind. ltb kind (n + 1) && test kind) (with_kind (kinds_below test n) n)
    (with_kind-within (kinds_below test n) n (kinds_that-within (λ kind. ltb kind n && test kind)) within)
    (λ kind small. has_kind-with (kinds_below test n) n kind
    ∙ ap (λ b. eqb n kind || b) (has_kind-kinds_that (λ kind. ltb kind n && test kind) kind small)
    ∙ at kind (cases_eq n kind))
  where
    at : (kind : ℕ) → (n ≡ kind) ⊎ (n ≡ kind → ⊥) → (eqb n kind || (ltb kind n && test kind)) ≡ (ltb kind (n + 1) && test kind)
    at kind (inl same) = grind (arith, nat_tests, eq-eqb n kind same, ap test same, passes)
    at kind (inr differ) = grind (arith, nat_tests, ne_eqb n kind differ)

pub kinds_below-no : (test : ℕ → Bool) (n : ℕ) → test n ≡ false → kinds_below test n ≡ kinds_below test (n + 1)
kinds_below-no test n fails =
    kinds_that-same (λ kind. ltb kind n && test kind) (λ kind. ltb kind (n + 1) && test kind) (λ kind within. at kind (cases_eq n kind))
  where
    at : (kind : ℕ) → (n ≡ kind) ⊎ (n ≡ kind → ⊥) → (ltb kind n && test kind) ≡ (ltb kind (n + 1) && test kind)
    at kind (inl same) = grind (arith, nat_tests, ap test same, fails)
    at kind (inr differ) = grind (arith, nat_tests, differ)

pub kinds_below-all : (test : ℕ → Bool) → kinds_below test 34 ≡ kinds_that test
kinds_below-all test =
    kinds_that-same (λ kind. ltb kind 34 && test kind) test (λ kind within. ap (λ b. b && test kind) (lt-ltb kind 34 within))

-- A test that each kind fails gives no kinds.
pub no_kinds-that : (test : ℕ → Bool) → ((kind : ℕ) → kind < 34 → test kind ≡ false) → no_kinds ≡ kinds_that test
no_kinds-that test fails = kinds_that-is test no_kinds none_within (λ kind within. has_kind-none kind ∙ sym (fails kind within))

-- A step of a loop that gathers the kinds that pass a test.
pub gathered-yes : (test : ℕ → Bool) (kinds next n kind : ℕ) (result : Bool) → kinds ≡ kinds_below test n → n < 34 → kind ≡ n → result ≡ test kind → result ≡ true →
    next ≡ with_kind kinds kind → next ≡ kinds_below test (n + 1)
gathered-yes test kinds next n kind result far within here value is more =
    more ∙ ap (λ k. with_kind kinds k) here ∙ ap (λ ks. with_kind ks n) far ∙ kinds_below-yes test n within (ap test (sym here) ∙ sym value ∙ is)

pub gathered-no : (test : ℕ → Bool) (kinds next n kind : ℕ) (result : Bool) → kinds ≡ kinds_below test n → kind ≡ n → result ≡ test kind → result ≡ false →
    next ≡ kinds → next ≡ kinds_below test (n + 1)
gathered-no test kinds next n kind result far here value is more =
    more ∙ far ∙ kinds_below-no test n (ap test (sym here) ∙ sym value ∙ is)

-- Kinds that fail a test change nothing.
pub kinds_below-stays : (test : ℕ → Bool) (n m : ℕ) → n ≤ m → ((kind : ℕ) → kind < 34 → n ≤ kind → kind < m → test kind ≡ false) → kinds_below test n ≡ kinds_below test m
kinds_below-stays test n m more fails =
    kinds_that-same (λ kind. ltb kind n && test kind) (λ kind. ltb kind m && test kind)
    (λ kind within. at kind within (cases_lt kind n) (cases_lt kind m))
  where
    at : (kind : ℕ) → kind < 34 → (kind < n) ⊎ (n ≤ kind) → (kind < m) ⊎ (m ≤ kind) → (ltb kind n && test kind) ≡ (ltb kind m && test kind)
    at kind within (inl below) z = ap (λ b. b && test kind) (lt-ltb kind n below ∙ sym (lt-ltb kind m (omega (arith, below, more))))
    at kind within (inr past) (inl inside) =
        and_right (ltb kind n) (test kind) (fails kind within past inside) ∙ sym (and_right (ltb kind m) (test kind) (fails kind within past inside))
    at kind within (inr past) (inr out) = ap (λ b. b && test kind) (le-ltb kind n past ∙ sym (le-ltb kind m out))

-- Past the last kind all are gathered.
pub gathered-all : (test : ℕ → Bool) (kinds n : ℕ) → kinds ≡ kinds_below test n → 34 ≤ n → kinds ≡ kinds_that test
gathered-all test kinds n far past =
    far ∙ kinds_that-same (λ kind. ltb kind n && test kind) test (λ kind within. ap (λ b. b && test kind) (lt-ltb kind n (omega (arith, within, past))))
