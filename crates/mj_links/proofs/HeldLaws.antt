-- What is held, as reads add to it and lines are taken from its front.
use Rattle.std.proofs.Common.{◌≡◌, ℕ, ◌+◌, ◌-◌, ◌<◌, ◌≤◌, List, [], ◌∷◌, ◌++◌, length, take, drop, refl, sym, ap, ◌∙◌, arith, subst, length-take, length-drop, Bool, true, false, suc}
use Rattle.std.specs.Prelude.{◌==◌, Some, None, nat_lt, not}
use mathlib.Core.Bool.{cond}
use Rattle.std.specs.List.{position, position_or_len, copy_within}
use Rattle.std.proofs.Math.Seq.{take-append-add}
use Rattle.std.proofs.lemmas.List.{take_all, drop-take, take-append-le}
use Rattle.std.proofs.lemmas.List.Edits.{take-paste}
use Rattle.std.proofs.lemmas.Bool.Decides.{nat_tests}
use Rattle.mj_links.specs.Links.{has_newline}

-- the bytes of a read stand after those that were held
pub filled : (bytes into rest : List ℕ) (count n : ℕ) → count ≤ length bytes → n ≤ length into → take (count + n) (take count bytes ++ (into ++ rest)) ≡ take count bytes ++ take n into
filled bytes into rest count n fits some =
    let long : length (take count bytes) ≡ count = omega (arith, length-take count bytes) in
    let whole = subst (λ (k : ℕ). take (k + n) (take count bytes ++ (into ++ rest)) ≡ take count bytes ++ take n (into ++ rest)) long (take-append-add (take count bytes) (into ++ rest) n) in
    whole ∙ ap (λ (l : List ℕ). take count bytes ++ l) (take-append-le n into rest some)

-- how many are held
pub held_length : (bytes : List ℕ) (count : ℕ) → length bytes ≡ 4096 → count ≤ 4096 → length (take count bytes) ≡ count
held_length bytes count room fits = omega (arith, length-take count bytes)

-- what stays once the front is dropped
pub dropped : (bytes : List ℕ) (count all : ℕ) → count ≤ all → all ≤ length bytes → take (all - count) (copy_within bytes count all 0) ≡ drop count (take all bytes)
dropped bytes count all some fits =
    let whole : count + (all - count) ≡ all = omega arith in
    let none : 0 + (all - count) ≡ all - count = omega arith in
    let left = subst (λ (k : ℕ). take k (copy_within bytes count all 0) ≡ take (all - count) (drop count bytes)) none
    (take-paste bytes 0 (drop count bytes) (all - count) (omega arith) (omega (arith, length-drop count bytes))) in
    left ∙ (sym (drop-take count (all - count) bytes) ∙ ap (λ (k : ℕ). drop count (take k bytes)) whole)

abbrev newline : ℕ → Bool
newline b = b == 10

before_at : (x : ℕ) (xs : List ℕ) (k : ℕ) (b : Bool) → newline x ≡ b → has_newline (take k xs) ≡ false → has_newline (take (cond (not b) (1 + k) 0) (x ∷ xs)) ≡ false
before_at x xs k true e h = refl
before_at x xs k false e h =
    let m : suc k ≡ 1 + k = omega arith in
    subst (λ (n : ℕ). has_newline (take n (x ∷ xs)) ≡ false) m (rw e h)

before : (xs : List ℕ) → has_newline (take (position_or_len newline xs) xs) ≡ false
before [] = refl
before (x ∷ xs) = before_at x xs (position_or_len newline xs) (newline x) refl (before xs)

splits_at : (x : ℕ) (xs : List ℕ) (k : ℕ) (b : Bool) → newline x ≡ b → (k < length xs → xs ≡ take k xs ++ 10 ∷ drop (k + 1) xs)
    → cond (not b) (1 + k) 0 < length (x ∷ xs) → x ∷ xs ≡ take (cond (not b) (1 + k) 0) (x ∷ xs) ++ 10 ∷ drop (cond (not b) (1 + k) 0 + 1) (x ∷ xs)
splits_at x xs k true e h small = let is : x ≡ 10 = grind (arith, nat_tests, e) in ap (λ (v : ℕ). v ∷ xs) is
splits_at x xs k false e h small =
    let m : suc k ≡ 1 + k = omega arith in
    let d : suc (k + 1) ≡ suc k + 1 = omega arith in
    subst (λ (n : ℕ). x ∷ xs ≡ take n (x ∷ xs) ++ 10 ∷ drop (n + 1) (x ∷ xs)) m
    (subst (λ (n : ℕ). x ∷ xs ≡ x ∷ (take k xs ++ 10 ∷ drop n (x ∷ xs))) d (ap (λ (l : List ℕ). x ∷ l) (h (omega (arith, small)))))

splits : (xs : List ℕ) → position_or_len newline xs < length xs → xs ≡ take (position_or_len newline xs) xs ++ 10 ∷ drop (position_or_len newline xs + 1) xs
splits [] small = absurd (omega (arith, small))
splits (x ∷ xs) small = splits_at x xs (position_or_len newline xs) (newline x) refl (splits xs) small

-- the first newline parts a text, and none stands before it
pub record Parts (xs : List ℕ) (n : ℕ) : Type 0 where
  pub split : xs ≡ take n xs ++ 10 ∷ drop (n + 1) xs
  pub first : has_newline (take n xs) ≡ false
  pub within : n < length xs

parts : (xs : List ℕ) → position_or_len newline xs < length xs → Parts xs (position_or_len newline xs)
parts xs small = record { split = splits xs small; first = before xs; within = small }

none_some : (a : ℕ) → Some a ≡ None → ⊥
none_some a e = cc

some_is : (a b : ℕ) → Some a ≡ Some b → a ≡ b
some_is a b e = cc

found_at : (xs : List ℕ) (n : ℕ) (b : Bool) → nat_lt (position_or_len newline xs) (length xs) ≡ b → cond b (Some (position_or_len newline xs)) None ≡ Some n → Parts xs n
found_at xs n true e is = subst (Parts xs) (some_is _ n is) (parts xs (grind (arith, nat_tests, e)))
found_at xs n false e is = absurd (none_some _ (sym is))

pub found : (xs : List ℕ) (n : ℕ) → position (λ b. b == 10) xs ≡ Some n → Parts xs n
found xs n is = found_at xs n (nat_lt (position_or_len newline xs) (length xs)) refl is

none_at : (xs : List ℕ) (b : Bool) → nat_lt (position_or_len newline xs) (length xs) ≡ b → cond b (Some (position_or_len newline xs)) None ≡ None → has_newline xs ≡ false
none_at xs true e is = absurd (none_some _ is)
none_at xs false e is =
    let long : length xs ≤ position_or_len newline xs = grind (arith, nat_tests, e) in
    subst (λ (l : List ℕ). has_newline l ≡ false) (take_all (position_or_len newline xs) xs long) (before xs)

pub none_found : (xs : List ℕ) → position (λ b. b == 10) xs ≡ None → has_newline xs ≡ false
none_found xs is = none_at xs (nat_lt (position_or_len newline xs) (length xs)) refl is

-- where the test for no room says no, there is room
pub room_left : (bytes : List ℕ) (count : ℕ) (full : Bool) → full ≡ (length (take count bytes) == 4096) → full ≡ false → length bytes ≡ 4096 → count ≤ 4096 → length (take count bytes) < 4096
room_left bytes count full is out room fits =
    let long = held_length bytes count room fits in
    let differs : (length (take count bytes) == 4096) ≡ false = sym is ∙ out in
    grind (arith, nat_tests, differs, long, fits)
