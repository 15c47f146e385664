-- A list by its first item and the others, the item after a list, and a list of zeros.
use Rattle.std.proofs.Common.{ℕ, ◌≡◌, ◌≤◌, ◌-◌, List, [], ◌∷◌, ◌++◌, length, get_or, take, drop, replicate, refl, sym, ◌∙◌, ap, arith, zero, suc}
use Rattle.std.specs.Prelude.{Some, slice_get}
use Rattle.std.proofs.lemmas.List.{take_all}

-- A list with an item is its first item and the others.
pub first_and_others : {A : Type 0} (d : A) (xs : List A) → 1 ≤ length xs → xs ≡ get_or xs 0 d ∷ take (length xs - 1) (drop 1 xs)
first_and_others d [] some = absurd (omega arith)
first_and_others d (x ∷ others) some =
    let fewer : length (x ∷ others) - 1 ≡ length others = omega arith in
    ap (λ r. x ∷ r) (sym (ap (λ n. take n others) fewer ∙ take_all (length others) others (omega arith)))

-- Among zeros each place reads as zero, and so does one past their end.
pub zero_at : (n k : ℕ) → ◌≡◌ {A = ℕ} (get_or (replicate n 0) k 0) 0
zero_at zero k = refl
zero_at (suc n) zero = refl
zero_at (suc n) (suc k) = zero_at n k

-- The item after a list stands at the place of the list's length.
pub at_end : {A : Type 0} (xs : List A) (x : A) → slice_get (xs ++ x ∷ []) (length xs) ≡ Some x
at_end [] x = refl
at_end (y ∷ ys) x = at_end ys x
