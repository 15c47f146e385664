-- Members of lists that are mapped, filtered and joined.
use Rattle.std.proofs.Common.{ℕ, ◌≡◌, ◌≢◌, ◌<◌, ◌+◌, ◌++◌, ◌∷◌, [], Bool, true, false, cond, List, length, get_or, map, refl, sym, ◌∙◌, ap, subst, arith, zero, suc, add-zero, ◌⊎◌, inl, inr, Some}
use Rattle.std.specs.List.{All, Contains, filter, flat_map, range_with_len, slice_get}
use Rattle.std.proofs.lemmas.List.{length-map, get_or-map}
use Rattle.std.proofs.lemmas.List.Elements.{All-nil, All-append, All-head, All-tail, All-contains, All-get_or, Contains-append_left}
use Rattle.std.proofs.lemmas.List.Elements.{Contains-append_right, Contains-append_cases, Contains-get_or, All-filter}
use Rattle.std.proofs.lemmas.Bool.{both_ways}
use Rattle.std.proofs.lemmas.List.FromFn.{length-range_with_len, get_or-range_with_len}
use Rattle.std.proofs.lemmas.Option.{slice_get_within, get_or_from_slice_get}
use Rattle.mj_readings.proofs.Distinct.{Distinct, Distinct-append}

pub Contains-here : {X : Type 0} (x : X) (xs : List X) → Contains (x ∷ xs) x
Contains-here x xs = (0, omega arith, refl)

pub Contains-there : {X : Type 0} (y : X) (xs : List X) (x : X) → Contains xs x → Contains (y ∷ xs) x
Contains-there y xs x has = (suc has.0, omega (arith, has.1), has.2)

pub Contains-cases : {X : Type 0} (y : X) (xs : List X) (x : X) → Contains (y ∷ xs) x → (y ≡ x) ⊎ Contains xs x
Contains-cases y xs x has = split has.0 has.1 has.2
  where
    split : (k : ℕ) → k < length (y ∷ xs) → get_or (y ∷ xs) k x ≡ x → (y ≡ x) ⊎ Contains xs x
    split zero inside is = inl is
    split (suc k) inside is = inr (k, omega (arith, inside), is)

pub Contains-nil : {X : Type 0} (x : X) → Contains [] x → ⊥
Contains-nil x has = omega (arith, has.1)

pub Contains-map : {X Y : Type 0} (f : X → Y) (xs : List X) (x : X) → Contains xs x → Contains (map f xs) (f x)
Contains-map f xs x c = (c.0, rw length-map c.1, get_or-map f xs c.0 x (f x) c.1 ∙ ap f c.2)

pub map-member : {X Y : Type 0} (f : X → Y) (xs : List X) (y : Y) → Contains (map f xs) y → (x : X) × Contains xs x × (f x ≡ y)
map-member f [] y has = absurd (Contains-nil y has)
map-member {X} {Y} f (x ∷ xs) y has = split (Contains-cases (f x) (map f xs) y has) (map-member f xs y)
  where
    split : (f x ≡ y) ⊎ Contains (map f xs) y → (Contains (map f xs) y → (z : X) × Contains xs z × (f z ≡ y)) → (z : X) × Contains (x ∷ xs) z × (f z ≡ y)
    split (inl here) rest = (x, Contains-here x xs, here)
    split (inr later) rest = let found = rest later in (found.0, Contains-there x xs found.0 found.1, found.2)

pub Contains-filter : {X : Type 0} (p : X → Bool) (xs : List X) (x : X) → p x ≡ true → Contains xs x → Contains (filter p xs) x
Contains-filter p [] x passes has = absurd (Contains-nil x has)
Contains-filter {X} p (y ∷ xs) x passes has = split (Contains-cases y xs x has) (p y) refl (Contains-filter p xs x passes)
  where
    split : (y ≡ x) ⊎ Contains xs x → (b : Bool) → p y ≡ b → (Contains xs x → Contains (filter p xs) x) → Contains (cond b (y ∷ filter p xs) (filter p xs)) x
    split (inl here) true is rest = subst (Contains (y ∷ filter p xs)) here (Contains-here y (filter p xs))
    split (inl here) false is rest = absurd (both_ways (p x) (ap p (sym here) ∙ is) passes)
    split (inr later) true is rest = Contains-there y (filter p xs) x (rest later)
    split (inr later) false is rest = rest later

pub Contains-range : (from n k : ℕ) → k < n → Contains (range_with_len from n) (from + k)
Contains-range from zero k inside = absurd (omega arith)
Contains-range from (suc n) zero inside = subst (Contains (from ∷ range_with_len (from + 1) n)) (sym (add-zero from)) (Contains-here from (range_with_len (from + 1) n))
Contains-range from (suc n) (suc k) inside =
    let next : from + 1 + k ≡ from + suc k = omega arith in
    subst (Contains (from ∷ range_with_len (from + 1) n)) next (Contains-there from (range_with_len (from + 1) n) (from + 1 + k) (Contains-range (from + 1) n k (omega (arith, inside))))

pub Contains-flat_map : {X Y : Type 0} (f : X → List Y) (xs : List X) (x : X) (y : Y) → Contains xs x → Contains (f x) y → Contains (flat_map f xs) y
Contains-flat_map f [] x y has one = absurd (Contains-nil x has)
Contains-flat_map f (first ∷ xs) x y has one = split (Contains-cases first xs x has) (Contains-flat_map f xs x y)
  where
    split : (first ≡ x) ⊎ Contains xs x → (Contains xs x → Contains (f x) y → Contains (flat_map f xs) y) → Contains (f first ++ flat_map f xs) y
    split (inl here) rest = Contains-append_left (f first) (flat_map f xs) y (subst (λ z. Contains (f z) y) (sym here) one)
    split (inr later) rest = Contains-append_right (f first) (flat_map f xs) y (rest later one)

pub flat_map-member : {X Y : Type 0} (f : X → List Y) (xs : List X) (y : Y) → Contains (flat_map f xs) y → (x : X) × Contains xs x × Contains (f x) y
flat_map-member f [] y has = absurd (Contains-nil y has)
flat_map-member {X} {Y} f (first ∷ xs) y has = split (Contains-append_cases (f first) (flat_map f xs) y has) (flat_map-member f xs y)
  where
    split : Contains (f first) y ⊎ Contains (flat_map f xs) y → (Contains (flat_map f xs) y → (x : X) × Contains xs x × Contains (f x) y) →
        (x : X) × Contains (first ∷ xs) x × Contains (f x) y
    split (inl here) rest = (first, Contains-here first xs, here)
    split (inr later) rest = let found = rest later in (found.0, Contains-there first xs found.0 found.1, found.2)

pub All-flat_map : {X Y : Type 0} (P : Y → Type 0) (f : X → List Y) (xs : List X) → All (λ x. All P (f x)) xs → All P (flat_map f xs)
All-flat_map P f [] each = All-nil P
All-flat_map P f (x ∷ xs) each =
    All-append P (f x) (flat_map f xs) (All-head (λ y. All P (f y)) x xs each) (All-flat_map P f xs (All-tail (λ y. All P (f y)) x xs each))

pub All-slice_get : {X : Type 0} (P : X → Type 0) (xs : List X) (i : ℕ) (x : X) → All P xs → slice_get xs i ≡ Some x → P x
All-slice_get P xs i x each is = subst P (get_or_from_slice_get xs i x x is) (All-get_or P xs i x (slice_get_within xs i x is) each)

pub Distinct-filter : {X : Type 0} (p : X → Bool) (xs : List X) → Distinct xs → Distinct (filter p xs)
Distinct-filter p [] once = tt
Distinct-filter {X} p (x ∷ xs) once = split (p x) (Distinct-filter p xs once.1)
  where
    split : (b : Bool) → Distinct (filter p xs) → Distinct (cond b (x ∷ filter p xs) (filter p xs))
    split true rest = (All-filter p (λ y. x ≢ y) xs once.0, rest)
    split false rest = rest

pub Distinct-range : (from n : ℕ) → Distinct (range_with_len from n)
Distinct-range from zero = tt
Distinct-range from (suc n) = (
  (λ k d inside e. let small : k < n = omega (arith, inside, length-range_with_len (from + 1) n) in
      omega (arith, e, get_or-range_with_len (from + 1) n k d small)),
  Distinct-range (from + 1) n,
)

-- Distinct lists joined, where no two of them share a member.
pub Distinct-flat_map : {X Y : Type 0} (f : X → List Y) (P : X → Type 0) (xs : List X) → Distinct xs → All P xs → ((x : X) → P x → Distinct (f x)) →
    ((x y : X) (z : Y) → P x → P y → Contains (f x) z → Contains (f y) z → x ≡ y) → Distinct (flat_map f xs)
Distinct-flat_map f P [] once each one apart = tt
Distinct-flat_map {X} {Y} f P (x ∷ xs) once each one apart =
    Distinct-append (f x) (flat_map f xs) (one x (All-head P x xs each))
    (Distinct-flat_map f P xs once.1 (All-tail P x xs each) one apart)
    (λ k d inside j e inside' same. clash (get_or (f x) k d) (Contains-get_or (f x) k d inside)
    (subst (Contains (flat_map f xs)) (sym same) (Contains-get_or (flat_map f xs) j e inside')))
  where
    clash : (z : Y) → Contains (f x) z → Contains (flat_map f xs) z → ⊥
    clash z here later =
        let found = flat_map-member f xs z later in
        All-contains (λ y. x ≢ y) xs found.0 once.0 found.1
        (apart x found.0 z (All-head P x xs each) (All-contains P xs found.0 (All-tail P x xs each) found.1) here found.2)
