-- Steps of the objects in memory.
use Rattle.std.proofs.Common.{◌≡◌, ℕ, ◌+◌, ◌^◌, ◌<◌, ◌≤◌, List, [], ◌∷◌, ◌++◌, length, take, drop, refl, sym, ap, ◌∙◌, arith}
use Rattle.std.proofs.Common.{suc, get_or, Fits, w64, false, length-take, take-append-drop, take-add, append-nil}
use Rattle.std.specs.Prelude.{◌==◌}
use Rattle.std.proofs.lemmas.List.{take-append-le, take_all, drop-drop}
use Rattle.std.proofs.lemmas.Bool.Decides.{nat_tests}
use Rattle.mj_links.specs.Memory.{has_next}

-- no list of such numbers has one past them
pub none_past : (numbers : List ℕ) (made : ℕ) → ((i : ℕ) → Fits w64 (get_or numbers i 0)) → (made + 1 < 2 ^ 64 → ⊥) → false ≡ has_next numbers made
none_past [] made h g = refl
none_past (x ∷ xs) made h g =
    let fits = h 0 in
    let e : (x == made + 1) ≡ false = grind (arith, nat_tests, fits.fits) in
    rw e (none_past xs made (λ i. h (suc i)) g)

-- what stands at the beginning of a copy
pub front_copied : (rest into front : List ℕ) (count : ℕ) → front ≡ take count rest → count ≤ length rest → take count (front ++ drop count into) ≡ take count rest
front_copied rest into front count f some =
    let long : length front ≡ count = ap length f ∙ omega (arith, length-take count rest) in
    let all : count ≤ length front = omega (arith, long) in
    rw take-append-le (take_all count front (omega (arith, long)) ∙ f)

-- the bytes that stand in the buffer and those that are left make what was left before
pub moved : (bytes into : List ℕ) (at count : ℕ) → take count into ≡ take count (drop at bytes) → drop at bytes ≡ take count into ++ drop (at + count) bytes
moved bytes into at count f =
    sym (take-append-drop count (drop at bytes)) ∙ (ap (λ l. l ++ drop count (drop at bytes)) (sym f)
    ∙ ap (λ l. take count into ++ l) (drop-drop count at bytes))

-- what was read before, and the bytes that stand in the buffer, are what was read since
pub gone_on : (bytes into : List ℕ) (at count : ℕ) → take count into ≡ take count (drop at bytes) → take (at + count) bytes ≡ take at bytes ++ take count into
gone_on bytes into at count f = take-add at count bytes ∙ ap (λ l. take at bytes ++ l) (sym f)

-- a read that gives nothing
pub gone_none : (xs : List ℕ) → xs ≡ xs ++ []
gone_none xs = sym (append-nil xs)

pub ruleset moving = (moved, gone_on, gone_none)
