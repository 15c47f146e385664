-- A list that has all and only the things with a property.
use Rattle.std.specs.Prelude.{◌≢◌, List, All, Contains, AllPairs}

-- the list has all things with the property P, nothing else, and each of them once
pub record AreAll {X : Type 0} (P : X → Type 0) (xs : List X) : Type 0 where
  pub only : All P xs
  pub all : (x : X) → P x → Contains xs x
  pub once : AllPairs (λ x y. x ≢ y) xs
