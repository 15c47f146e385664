-- Lists each of whose members stands in a relation to all that follow it.
use Rattle.std.proofs.Common.{◌≡◌, suc, ◌&&◌, ◌++◌, ◌∷◌, [], Bool, true, false, cond, List, map, refl, ap, ◌∙◌, subst, arith}
use Rattle.std.specs.List.{All, AllPairs, Contains, filter, flat_map, list_all}
use Rattle.std.proofs.lemmas.Bool.{and_parts}
use Rattle.std.proofs.lemmas.List.Sums.{AllPass-from_list_all}
use Rattle.std.proofs.lemmas.List.Elements.{All-append, All-map, All-weaker, All-contains, All-filter, All-contains_itself, filter_passes}
use Rattle.std.proofs.lemmas.List.Kept.{AllPairs-cons}
use Rattle.mj_readings.proofs.Members.{Contains-here, Contains-there, flat_map-member, map-member}

-- Each member stands so to all that follow it.
abbrev pub Turned : {A : Type 0} → (A → A → Type 0) → List A → Type 0
Turned R [] = Unit {0}
Turned R (x ∷ xs) = All (R x) xs × Turned R xs

-- What holds of each member.
pub of_members : {A : Type 0} (P : A → Type 0) (xs : List A) → ((x : A) → Contains xs x → P x) → All P xs
of_members P xs each = All-weaker (Contains xs) P each xs (All-contains_itself xs)

-- The members of a filtered list.
pub kept_member : {A : Type 0} (p : A → Bool) (xs : List A) (x : A) → Contains (filter p xs) x → Contains xs x × (p x ≡ true)
kept_member p xs x has = (
  All-contains (Contains xs) (filter p xs) x (All-filter p (Contains xs) xs (All-contains_itself xs)) has,
  All-contains (λ y. p y ≡ true) (filter p xs) x (filter_passes p xs) has,
)

pub turned-append : {A : Type 0} (R : A → A → Type 0) (xs ys : List A) → Turned R xs → Turned R ys → ((x y : A) → Contains xs x → Contains ys y → R x y) → Turned R (xs ++ ys)
turned-append R [] ys left right across = right
turned-append R (x ∷ xs) ys left right across = (
  All-append (R x) xs ys left.0 (of_members (R x) ys (λ y there. across x y (Contains-here x xs) there)),
  turned-append R xs ys left.1 right (λ a b here there. across a b (Contains-there x xs a here) there),
)

pub turned-map : {A B : Type 0} (R : A → A → Type 0) (S : B → B → Type 0) (f : A → B) → ((x y : A) → R x y → S (f x) (f y)) → (xs : List A) → Turned R xs → Turned S (map f xs)
turned-map R S f each [] turned = tt
turned-map R S f each (x ∷ xs) turned = (
  All-map (S (f x)) f xs (All-weaker (R x) (λ y. S (f x) (f y)) (λ y. each x y) xs turned.0),
  turned-map R S f each xs turned.1,
)

pub turned-flat_map : {A B : Type 0} (R : A → A → Type 0) (S : B → B → Type 0) (f : A → List B) → ((x : A) → Turned S (f x)) →
    ((x y : A) (u v : B) → R x y → Contains (f x) u → Contains (f y) v → S u v) →
    (xs : List A) → Turned R xs → Turned S (flat_map f xs)
turned-flat_map R S f each across [] turned = tt
turned-flat_map R S f each across (x ∷ xs) turned =
    turned-append S (f x) (flat_map f xs) (each x) (turned-flat_map R S f each across xs turned.1)
    (λ u v here there. let found = flat_map-member f xs v there in across x found.0 u v (All-contains (R x) xs found.0 turned.0 found.1) here found.2)

pub turned-filter : {A : Type 0} (R : A → A → Type 0) (p : A → Bool) (xs : List A) → Turned R xs → Turned R (filter p xs)
turned-filter R p [] turned = tt
turned-filter {A} R p (x ∷ xs) turned = split (p x) (turned-filter R p xs turned.1)
  where
    split : (b : Bool) → Turned R (filter p xs) → Turned R (cond b (x ∷ filter p xs) (filter p xs))
    split true rest = (All-filter p (R x) xs turned.0, rest)
    split false rest = rest

-- Of a mapped list those that pass a test stand so where two that both pass do.
pub turned-kept : {A B : Type 0} (R : A → A → Type 0) (S : B → B → Type 0) (f : A → B) (p : B → Bool) → ((x y : A) → R x y → p (f x) ≡ true → p (f y) ≡ true → S (f x) (f y)) →
    (xs : List A) → Turned R xs → Turned S (filter p (map f xs))
turned-kept R S f p each [] turned = tt
turned-kept {A} {B} R S f p each (x ∷ xs) turned = split (p (f x)) refl (turned-kept R S f p each xs turned.1)
  where
    behind : p (f x) ≡ true → (v : B) → Contains (filter p (map f xs)) v → S (f x) v
    behind passes v there =
        let kept = kept_member p (map f xs) v there in
        let found = map-member f xs v kept.0 in
        subst (S (f x)) found.2 (each x found.0 (All-contains (R x) xs found.0 turned.0 found.1) passes (ap p found.2 ∙ kept.1))

    split : (b : Bool) → p (f x) ≡ b → Turned S (filter p (map f xs)) → Turned S (cond b (f x ∷ filter p (map f xs)) (filter p (map f xs)))
    split true is rest = (of_members (S (f x)) (filter p (map f xs)) (behind is), rest)
    split false is rest = rest

-- In the words of pairs of places.
pub turned-pairs : {A : Type 0} (R : A → A → Type 0) (xs : List A) → Turned R xs → AllPairs R xs
turned-pairs R [] turned = λ i j d before inside. absurd (omega (arith, inside))
turned-pairs R (x ∷ xs) turned = AllPairs-cons R x xs turned.0 (turned-pairs R xs turned.1)

pub turned-from_pairs : {A : Type 0} (R : A → A → Type 0) (xs : List A) → AllPairs R xs → Turned R xs
turned-from_pairs R [] pairs = tt
turned-from_pairs R (x ∷ xs) pairs = (
  (λ k d inside. pairs 0 (suc k) d (omega arith) (omega (arith, inside))),
  turned-from_pairs R xs (λ i j d before inside. pairs (suc i) (suc j) d (omega (arith, before)) (omega (arith, inside))),
)

-- Where each member passes a test with all that follow it.
abbrev pub pairs_pass : {A : Type 0} → (A → A → Bool) → List A → Bool
pairs_pass test [] = true
pairs_pass test (x ∷ xs) = list_all (test x) xs && pairs_pass test xs

pub turned-by : {A : Type 0} (test : A → A → Bool) (xs : List A) → pairs_pass test xs ≡ true → Turned (λ x y. test x y ≡ true) xs
turned-by test [] passes = tt
turned-by test (x ∷ xs) passes =
    let parts = and_parts (list_all (test x) xs) (pairs_pass test xs) passes in
    (AllPass-from_list_all (test x) xs parts.0, turned-by test xs parts.1)
