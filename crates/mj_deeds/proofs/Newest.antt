-- The last of a list that grows at its end.
use Rattle.std.proofs.Common.{◌≡◌, ◌-◌, List, [], ◌∷◌, ◌++◌, length, take, Some, refl, ap, ◌∙◌, arith}
use Rattle.std.specs.Prelude.{slice_get}
use Rattle.std.proofs.lemmas.List.{length-append}
use Rattle.mj_lists.proofs.Fronts.{at_end}
use Rattle.mj_deeds.specs.declared.deed.Deed.{Deed}
use Rattle.mj_deeds.specs.Facts.{newest}

one_less : {A : Type 0} (xs : List A) (x : A) → length (xs ++ x ∷ []) - 1 ≡ length xs
one_less xs x = simp length-append (omega arith)

-- The last of a list is what was added last.
pub last_added : {A : Type 0} (xs : List A) (x : A) → slice_get (xs ++ x ∷ []) (length (xs ++ x ∷ []) - 1) ≡ Some x
last_added xs x = rw (one_less xs x) (at_end xs x)

-- The newest deed is the one that was added last.
pub newest_more : (ds : List Deed) (d : Deed) → newest (ds ++ d ∷ []) ≡ Some d
newest_more ds d = last_added ds d

-- The deeds before the newest one.
pub before_more : {A : Type 0} (xs : List A) (x : A) → take (length (xs ++ x ∷ []) - 1) (xs ++ x ∷ []) ≡ xs
before_more {A = A} xs x = ap (λ n. take n (xs ++ x ∷ [])) (one_less xs x) ∙ first_of xs
  where
    first_of : (ys : List A) → take (length ys) (ys ++ x ∷ []) ≡ ys
    first_of [] = refl
    first_of (y ∷ ys) = ap (λ (zs : List A). y ∷ zs) (first_of ys)
