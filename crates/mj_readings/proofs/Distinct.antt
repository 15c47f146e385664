-- Lists in which nothing stands twice.
use Rattle.std.proofs.Common.{ℕ, ◌≡◌, ◌≢◌, ◌++◌, ◌∷◌, [], List, get_or, map, sym, ◌∙◌, ap, arith, zero, suc}
use Rattle.std.specs.List.{All, AllPairs}
use Rattle.std.proofs.lemmas.List.Elements.{All-append, All-map, All-weaker, All-head, All-tail, All-get_or}

abbrev pub Distinct : {X : Type 0} → List X → Type 0
Distinct [] = Unit {0}
Distinct (x ∷ xs) = All (λ y. x ≢ y) xs × Distinct xs

pub Distinct-append : {X : Type 0} (xs ys : List X) → Distinct xs → Distinct ys → All (λ x. All (λ y. x ≢ y) ys) xs → Distinct (xs ++ ys)
Distinct-append [] ys one other apart = other
Distinct-append {X} (x ∷ xs) ys one other apart = (
  All-append (λ y. x ≢ y) xs ys one.0 (All-head (λ (z : X). All (λ y. z ≢ y) ys) x xs apart),
  Distinct-append xs ys one.1 other (All-tail (λ (z : X). All (λ y. z ≢ y) ys) x xs apart),
)

pub Distinct-map : {X Y : Type 0} (f : X → Y) (xs : List X) → ((a b : X) → f a ≡ f b → a ≡ b) → Distinct xs → Distinct (map f xs)
Distinct-map f [] same one = tt
Distinct-map {X} {Y} f (x ∷ xs) same one = (
  All-map (λ y. f x ≢ y) f xs (All-weaker (λ y. x ≢ y) (λ y. f x ≢ f y) (λ y differ e. differ (same x y e)) xs one.0),
  Distinct-map f xs same one.1,
)

pub Distinct-map_on : {X Y : Type 0} (f : X → Y) (P : X → Type 0) (xs : List X) → ((a b : X) → P a → P b → f a ≡ f b → a ≡ b) → All P xs → Distinct xs → Distinct (map f xs)
Distinct-map_on f P [] same each one = tt
Distinct-map_on {X} {Y} f P (x ∷ xs) same each one = (
  All-map (λ y. f x ≢ y) f xs
      (λ k d inside e. one.0 k d inside (same x (get_or xs k d) (All-head P x xs each) (All-get_or P xs k d inside (All-tail P x xs each)) e)),
  Distinct-map_on f P xs same (All-tail P x xs each) one.1,
)

-- Lists that differ in a number.
pub apart_by : {X : Type 0} (key : X → ℕ) (a b : ℕ) (xs ys : List X) → All (λ x. key x ≡ a) xs → All (λ y. key y ≡ b) ys → (a ≡ b → ⊥) →
    All (λ x. All (λ y. x ≢ y) ys) xs
apart_by key a b xs ys one other differ =
    All-weaker (λ x. key x ≡ a) (λ x. All (λ y. x ≢ y) ys)
    (λ x is. All-weaker (λ y. key y ≡ b) (λ y. x ≢ y) (λ y has e. differ (sym is ∙ ap key e ∙ has)) ys other) xs one

pub AllPairs-Distinct : {X : Type 0} (xs : List X) → Distinct xs → AllPairs (λ a b. a ≢ b) xs
AllPairs-Distinct [] one i j d before inside = absurd (omega (arith, inside))
AllPairs-Distinct (x ∷ xs) one zero zero d before inside = absurd (omega (arith, before))
AllPairs-Distinct (x ∷ xs) one zero (suc j) d before inside = one.0 j d (omega (arith, inside))
AllPairs-Distinct (x ∷ xs) one (suc i) zero d before inside = absurd (omega (arith, before))
AllPairs-Distinct (x ∷ xs) one (suc i) (suc j) d before inside = AllPairs-Distinct xs one.1 i j d (omega (arith, before)) (omega (arith, inside))
