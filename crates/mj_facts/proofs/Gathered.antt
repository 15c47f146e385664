-- What a list gives, item after item.
use Rattle.std.proofs.Common.{◌≡◌, ℕ, ◌-◌, List, ◌++◌, length, Bool, true, false, not, cond, Option, Some, None, refl, sym, ap, ◌∙◌, append-nil}
use Rattle.std.specs.Prelude.{[], ◌∷◌, slice_get, option_to_list, filter, flat_map}
use Rattle.std.specs.Option.{option_or}
use Rattle.std.proofs.lemmas.List.Elements.{filter-append}
use Rattle.std.proofs.lemmas.List.Concat.{flat_map-append}
use Rattle.mj_deeds.specs.declared.deed.Deed.{Deed}
use Rattle.mj_deeds.proofs.Newest.{last_added}

-- What each deed gives, with one deed more.
pub one_more : (f : Deed → List ℕ) (ds : List Deed) (d : Deed) → flat_map f (ds ++ d ∷ []) ≡ flat_map f ds ++ f d
one_more f ds d = flat_map-append f ds (d ∷ []) ∙ ap (λ (ys : List ℕ). flat_map f ds ++ ys) (append-nil (f d))

-- What is added last is the last one; where nothing is added the last stays.
pub last_more : (xs : List ℕ) (more : Option ℕ) →
    slice_get (xs ++ option_to_list more) (length (xs ++ option_to_list more) - 1) ≡ option_or more (slice_get xs (length xs - 1))
last_more xs None = simp append-nil refl
last_more xs (Some x) = last_added xs x

-- The last one of a list that doesn't pass, with one item more.
kept_more : {A : Type 0} (p : A → Bool) (xs : List A) (x : A) →
    slice_get (filter (λ y. not (p y)) (xs ++ x ∷ [])) (length (filter (λ y. not (p y)) (xs ++ x ∷ [])) - 1)
    ≡ cond (p x) (slice_get (filter (λ y. not (p y)) xs) (length (filter (λ y. not (p y)) xs) - 1)) (Some x)
kept_more {A = A} p xs x =
    ap (λ (ys : List A). slice_get ys (length ys - 1)) (filter-append (λ y. not (p y)) xs (x ∷ []))
    ∙ by_test (p x) (filter (λ y. not (p y)) xs)
  where
    by_test : (b : Bool) (ys : List A) → slice_get (ys ++ cond (not b) (x ∷ []) []) (length (ys ++ cond (not b) (x ∷ []) []) - 1) ≡ cond b (slice_get ys (length ys - 1)) (Some x)
    by_test true ys = ap (λ (zs : List A). slice_get zs (length zs - 1)) (append-nil ys)
    by_test false ys = last_added ys x

pub last_if_kept : {A : Type 0} (p : A → Bool) (all xs : List A) (x : A) → all ≡ xs ++ x ∷ [] → p x ≡ false →
    Some x ≡ slice_get (filter (λ y. not (p y)) all) (length (filter (λ y. not (p y)) all) - 1)
last_if_kept {A = A} p all xs x e h =
    sym
    (ap (λ (ys : List A). slice_get (filter (λ y. not (p y)) ys) (length (filter (λ y. not (p y)) ys) - 1)) e
    ∙ kept_more p xs x
    ∙ ap (λ b. cond b (slice_get (filter (λ y. not (p y)) xs) (length (filter (λ y. not (p y)) xs) - 1)) (Some x)) h)
