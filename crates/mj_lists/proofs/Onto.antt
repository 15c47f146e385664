-- A list that is read item by item, of which what is left may not be readable.
use Rattle.std.proofs.Common.{◌≡◌, List, [], ◌∷◌, ◌++◌, refl, append_assoc}
use Rattle.std.specs.Prelude.{Option, Some, None, option_map}

-- Items, and those that come after them where there are some.
abbrev pub onto : {A : Type 0} → List A → Option (List A) → Option (List A)
onto items None = None
onto items (Some more) = Some (items ++ more)

-- One item more was read.
pub onto-more : {A : Type 0} (items : List A) (item : A) (o : Option (List A)) → onto items (option_map (λ more. item ∷ more) o) ≡ onto (items ++ item ∷ []) o
onto-more items item None = refl
onto-more items item (Some more) = simp append_assoc

-- Nothing was read.
pub onto-nothing : {A : Type 0} (o : Option (List A)) → o ≡ onto [] o
onto-nothing None = refl
onto-nothing (Some more) = refl
