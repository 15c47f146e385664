-- A concealed kan in riichi: its waits as sets, and readings one by one.
use Rattle.std.proofs.Common.{ℕ, ◌≡◌, ◌<◌, ◌≤◌, ◌+◌, ◌-◌, ◌⊎◌, inl, inr, ◌&&◌, ◌||◌, not, Bool, true, false, List, [], ◌∷◌, Some, None, refl, sym, ◌∙◌, ap, arith, zero, suc, drop, eqb, ltb}
use Rattle.std.specs.Prelude.{slice_get}
use Rattle.std.specs.List.{list_all}
use Rattle.std.proofs.lemmas.Bool.{eqb-true, eq-eqb, cases_lt}
use Rattle.std.proofs.lemmas.Bool.Decides.{nat_tests}
use Rattle.mj_tiles.specs.Counts.{all_kinds}
use Rattle.mj_tiles.specs.Kinds.{has_kind, kinds_that}
use Rattle.mj_tiles.proofs.EachKind.{all_kinds-pass, each_kind}
use Rattle.mj_tiles.proofs.KindSets.{same_kinds, has_kind-kinds_that, kinds_that-within}
use Rattle.mj_calls.specs.RiichiKans.{is_same}

-- the waits

same_when : (a b : Bool) → a ≡ b → is_same a b ≡ true
same_when true true e = refl
same_when false false e = refl
same_when true false e = cc
same_when false true e = cc

when_same : (a b : Bool) → is_same a b ≡ true → a ≡ b
when_same true true e = refl
when_same false false e = refl
when_same true false e = cc
when_same false true e = cc

-- Two sets of kinds are the same exactly where each kind has the same answer to their tests.
pub same_answers : (f g : ℕ → Bool) (result : Bool) (now before : ℕ) → now ≡ kinds_that g → before ≡ kinds_that f → result ≡ eqb now before →
    result ≡ list_all (λ kind. is_same (f kind) (g kind)) all_kinds
same_answers f g result now before new old is =
    is ∙ ap (λ n. eqb n before) new ∙ ap (eqb (kinds_that g)) old
    ∙ by_tests (eqb (kinds_that g) (kinds_that f)) refl (list_all (λ kind. is_same (f kind) (g kind)) all_kinds) refl
  where
    alike : kinds_that g ≡ kinds_that f → (kind : ℕ) → kind < 34 → is_same (f kind) (g kind) ≡ true
    alike e kind small =
        same_when (f kind) (g kind) (sym (has_kind-kinds_that f kind small) ∙ ap (λ s. has_kind s kind) (sym e) ∙ has_kind-kinds_that g kind small)

    equal : list_all (λ kind. is_same (f kind) (g kind)) all_kinds ≡ true → kinds_that g ≡ kinds_that f
    equal all =
        same_kinds (kinds_that g) (kinds_that f) (kinds_that-within g) (kinds_that-within f)
        (λ kind small.
        has_kind-kinds_that g kind small
        ∙ sym (when_same (f kind) (g kind) (each_kind (λ kind. is_same (f kind) (g kind)) kind small all))
        ∙ sym (has_kind-kinds_that f kind small))

    differ : (a b : Bool) → a ≡ false → a ≡ true → ⊥
    differ a b e h = cc

    by_tests : (a : Bool) → eqb (kinds_that g) (kinds_that f) ≡ a → (b : Bool) → list_all (λ kind. is_same (f kind) (g kind)) all_kinds ≡ b → a ≡ b
    by_tests true e true h = refl
    by_tests false e false h = refl
    by_tests true e false h = sym (all_kinds-pass _ (alike (eqb-true _ _ e))) ∙ h
    by_tests false e true h = sym e ∙ eq-eqb _ _ (equal h)

-- A kind that is waited for, and one that is not.
pub not_waited : (f : ℕ → Bool) (waited kind : ℕ) (result others : Bool) → waited ≡ kinds_that f → kind < 34 → result ≡ has_kind waited kind → result ≡ false → true ≡ (not (f kind) || others)
not_waited f waited kind result others are small is lacks =
    sym (ap (λ b. not b || others) (sym (has_kind-kinds_that f kind small) ∙ ap (λ s. has_kind s kind) (sym are) ∙ sym is ∙ lacks))

pub waited_for : (f : ℕ → Bool) (waited kind : ℕ) (result others : Bool) → waited ≡ kinds_that f → kind < 34 → result ≡ has_kind waited kind → result ≡ true → others ≡ (not (f kind) || others)
waited_for f waited kind result others are small is has =
    sym (ap (λ b. not b || others) (sym (has_kind-kinds_that f kind small) ∙ ap (λ s. has_kind s kind) (sym are) ∙ sym is ∙ has))

pub no_room : (held room : ℕ) (completes others : Bool) → room ≤ held → true ≡ (not (ltb held room && completes) || others)
no_room held room completes others over = sym (ap (λ b. not (b && completes) || others) none)
  where
    none : ltb held room ≡ false
    none = grind (arith, nat_tests, over)

-- the kinds one by one

pub all_below : (p : ℕ → Bool) (n kind : ℕ) → ((k : ℕ) → k < n → p k ≡ true) → kind ≡ n → p kind ≡ true → (k : ℕ) → k < n + 1 → p k ≡ true
all_below p n kind before here passes k inside = split (cases_lt k n)
  where
    same : n ≤ k → k ≡ n
    same over = omega (arith, over, inside)

    split : (k < n) ⊎ (n ≤ k) → p k ≡ true
    split (inl below) = before k below
    split (inr over) = ap p (same over ∙ sym here) ∙ passes

-- the readings one by one

drop_at : {X : Type 0} (xs : List X) (place : ℕ) (x : X) → slice_get xs place ≡ Some x → drop place xs ≡ x ∷ drop (place + 1) xs
drop_at [] place x e = absurd (cc)
drop_at (y ∷ ys) zero x e = first y ys x e
  where
    first : {X : Type 0} (y : X) (ys : List X) (x : X) → Some y ≡ Some x → y ∷ ys ≡ x ∷ ys
    first y ys x e = cc
drop_at (y ∷ ys) (suc place) x e =
    let same : suc (place + 1) ≡ suc place + 1 = omega arith in
    drop_at ys place x e ∙ ap (λ n. x ∷ drop n (y ∷ ys)) same

drop_past : {X : Type 0} (xs : List X) (place : ℕ) → slice_get xs place ≡ None → drop place xs ≡ []
drop_past [] zero e = refl
drop_past [] (suc place) e = refl
drop_past (y ∷ ys) zero e = absurd (cc)
drop_past (y ∷ ys) (suc place) e = drop_past ys place e

-- An item at a place passes: what is left passes or fails as before.
pub passed_over : {X : Type 0} (test : X → Bool) (list : List X) (place : ℕ) (x : X) (whole : Bool) → list_all test (drop place list) ≡ whole →
    slice_get list place ≡ Some x → test x ≡ true → list_all test (drop (place + 1) list) ≡ whole
passed_over test list place x whole left at passes =
    sym (ap (λ b. b && list_all test (drop (place + 1) list)) passes)
    ∙ sym (ap (list_all test) (drop_at list place x at))
    ∙ left

-- An item at a place fails.
pub failed_at : {X : Type 0} (test : X → Bool) (list : List X) (place : ℕ) (x : X) (whole : Bool) → list_all test (drop place list) ≡ whole →
    slice_get list place ≡ Some x → test x ≡ false → false ≡ whole
failed_at test list place x whole left at fails =
    sym (ap (λ b. b && list_all test (drop (place + 1) list)) fails)
    ∙ sym (ap (list_all test) (drop_at list place x at))
    ∙ left

-- None is left.
pub all_passed : {X : Type 0} (test : X → Bool) (list : List X) (place : ℕ) (whole : Bool) → list_all test (drop place list) ≡ whole →
    slice_get list place ≡ None → true ≡ whole
all_passed test list place whole left at = sym (ap (list_all test) (drop_past list place at)) ∙ left
