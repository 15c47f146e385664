-- Lists: what is left of them from a place on, and items that pass a test.
use Rattle.std.proofs.Common.{ℕ, ◌≡◌, ◌<◌, ◌+◌, ◌||◌, Bool, true, false, List, [], ◌∷◌, Some, None, refl, ◌∙◌, ap, arith, zero, suc, length, drop, cond, get_or, ltb}
use Rattle.std.specs.Prelude.{slice_get, All, IsTrue}
use Rattle.std.specs.List.{list_any, position, position_or_len}
use Rattle.std.proofs.lemmas.Bool.Decides.{nat_tests}

-- What is left of a list from a place on begins with the item there.
pub drop_at : {X : Type 0} (xs : List X) (place : ℕ) (x : X) → slice_get xs place ≡ Some x → drop place xs ≡ x ∷ drop (place + 1) xs
drop_at [] place x e = absurd (cc)
drop_at (y ∷ ys) zero x e = first y ys x e
  where
    first : {X : Type 0} (y : X) (ys : List X) (x : X) → Some y ≡ Some x → y ∷ ys ≡ x ∷ ys
    first y ys x e = cc
drop_at (y ∷ ys) (suc place) x e =
    let same : suc (place + 1) ≡ suc place + 1 = omega arith in
    drop_at ys place x e ∙ ap (λ n. x ∷ drop n (y ∷ ys)) same

-- Past the end nothing is left.
pub drop_past : {X : Type 0} (xs : List X) (place : ℕ) → slice_get xs place ≡ None → drop place xs ≡ []
drop_past [] zero e = refl
drop_past [] (suc place) e = refl
drop_past (y ∷ ys) zero e = absurd (cc)
drop_past (y ∷ ys) (suc place) e = drop_past ys place e

-- An item that passes stands in the list.
pub any_at : {X : Type 0} (p : X → Bool) (xs : List X) (x : X) (place : ℕ) → place < length xs → get_or xs place x ≡ x → p x ≡ true → list_any p xs ≡ true
any_at p [] x place within e q = absurd (omega arith)
any_at p (y ∷ ys) x zero within e q = or_left (p y) (list_any p ys) (ap p e ∙ q)
  where
    or_left : (a b : Bool) → a ≡ true → (a || b) ≡ true
    or_left true b h = refl
    or_left false b h = absurd (cc)
any_at p (y ∷ ys) x (suc place) within e q = or_right (p y) (list_any p ys) (any_at p ys x place (omega arith) e q)
  where
    or_right : (a b : Bool) → b ≡ true → (a || b) ≡ true
    or_right true b h = refl
    or_right false b h = h

-- An item in front of the others passes, or one of the others does.
some_more : {X : Type 0} (P : X → Type 0) (p : X → Bool) (y : X) (ys : List X) → All P (y ∷ ys) →
    (list_any p ys ≡ true → (x : X) × (P x × IsTrue (p x))) → (b : Bool) → p y ≡ b → (b || list_any p ys) ≡ true → (x : X) × (P x × IsTrue (p x))
some_more P p y ys all others true is h = (y, (all zero y (omega arith), is))
some_more P p y ys all others false is h = others h

-- Some item of a list passes, and has what all have.
pub some_of : {X : Type 0} (P : X → Type 0) (p : X → Bool) (xs : List X) → All P xs → list_any p xs ≡ true → (x : X) × (P x × IsTrue (p x))
some_of P p [] all h = absurd (cc)
some_of P p (y ∷ ys) all h = some_more P p y ys all (some_of P p ys (λ k d inside. all (suc k) d (omega arith))) (p y) refl h

-- The first place at which a list says yes is in the list.
pub place_within : (rows : List Bool) (place : ℕ) → position (λ row. row) rows ≡ Some place → place < length rows
place_within rows place e = choose (position_or_len (λ row. row) rows) (length rows) place (ltb (position_or_len (λ row. row) rows) (length rows)) refl e
  where
    some_same : (n place : ℕ) → Some n ≡ Some place → n ≡ place
    some_same n place e = cc

    choose : (n len place : ℕ) (b : Bool) → ltb n len ≡ b → cond b (Some n) None ≡ Some place → place < len
    choose n len place true is e = let same : n ≡ place = some_same n place e in grind (arith, nat_tests)
    choose n len place false is e = absurd (cc)

-- A list that begins with a yes has it at its first place.
pub place_first : (row : Bool) (rows : List Bool) → row ≡ true → position (λ row. row) (row ∷ rows) ≡ Some 0
place_first true rows e = let first : ltb 0 (suc (length rows)) ≡ true = grind (arith, nat_tests) in ap (λ b. cond b (Some 0) None) first
place_first false rows e = absurd (cc)
