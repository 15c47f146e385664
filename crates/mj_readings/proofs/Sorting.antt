-- Sets can be put in order: the same sets, so the same tiles.
use Rattle.std.proofs.Common.{ℕ, ◌≡◌, ◌+◌, ◌∷◌, [], Bool, true, false, cond, List, length, refl, ◌∙◌, ap, arith, leb, suc}
use Rattle.std.specs.List.{list_all}
use Rattle.std.proofs.lemmas.Bool.{and_parts, and_from, leb-true, leb-false, le-leb}
use Rattle.mj_readings.specs.declared.reading.Set.{Set}
use Rattle.mj_readings.specs.Sets.{place_of, in_order}
use Rattle.mj_readings.proofs.Tiles.{number_at, in_set}
use Rattle.mj_readings.proofs.Order.{list_all-later}

abbrev pub put_in : Set → List Set → List Set
put_in set [] = set ∷ []
put_in set (other ∷ others) = cond (leb (place_of set) (place_of other)) (set ∷ other ∷ others) (other ∷ put_in set others)

abbrev pub sorted : List Set → List Set
sorted [] = []
sorted (set ∷ others) = put_in set (sorted others)

number_at-put_in : (kind : ℕ) (set : Set) (sets : List Set) → number_at kind (put_in set sets) ≡ in_set kind set + number_at kind sets
number_at-put_in kind set [] = refl
number_at-put_in kind set (other ∷ others) = branch (leb (place_of set) (place_of other)) (number_at-put_in kind set others)
  where
    swap : (a b c d : ℕ) → a ≡ c + d → b + a ≡ c + (b + d)
    swap a b c d e = omega arith

    branch : (b : Bool) → number_at kind (put_in set others) ≡ in_set kind set + number_at kind others →
        number_at kind (cond b (set ∷ other ∷ others) (other ∷ put_in set others)) ≡ in_set kind set + (in_set kind other + number_at kind others)
    branch true rest = refl
    branch false rest = swap _ _ _ _ rest

length-put_in : (set : Set) (sets : List Set) → length (put_in set sets) ≡ suc (length sets)
length-put_in set [] = refl
length-put_in set (other ∷ others) = branch (leb (place_of set) (place_of other)) (length-put_in set others)
  where
    branch : (b : Bool) → length (put_in set others) ≡ suc (length others) →
        length (cond b (set ∷ other ∷ others) (other ∷ put_in set others)) ≡ suc (suc (length others))
    branch true rest = refl
    branch false rest = ap suc rest

list_all-put_in : (p : Set → Bool) (set : Set) (sets : List Set) → p set ≡ true → list_all p sets ≡ true → list_all p (put_in set sets) ≡ true
list_all-put_in p set [] one each = and_from (p set) true one refl
list_all-put_in p set (other ∷ others) one each =
    let parts = and_parts (p other) (list_all p others) each in
    branch (leb (place_of set) (place_of other)) parts.0 (list_all-put_in p set others one parts.1)
  where
    branch : (b : Bool) → p other ≡ true → list_all p (put_in set others) ≡ true → list_all p (cond b (set ∷ other ∷ others) (other ∷ put_in set others)) ≡ true
    branch true here rest = and_from (p set) (list_all p (other ∷ others)) one each
    branch false here rest = and_from (p other) (list_all p (put_in set others)) here rest

in_order-put_in : (set : Set) (sets : List Set) → in_order sets ≡ true → in_order (put_in set sets) ≡ true
unfolding in_order
in_order-put_in set [] order = refl
in_order-put_in set (other ∷ others) order =
    let parts = and_parts (list_all (λ later. leb (place_of other) (place_of later)) others) (in_order others) order in
    branch set other others (leb (place_of set) (place_of other)) refl order parts.0 (in_order-put_in set others parts.1)
  where
    branch : (set other : Set) (others : List Set) (b : Bool) → leb (place_of set) (place_of other) ≡ b → in_order (other ∷ others) ≡ true →
        list_all (λ later. leb (place_of other) (place_of later)) others ≡ true → in_order (put_in set others) ≡ true →
        in_order (cond b (set ∷ other ∷ others) (other ∷ put_in set others)) ≡ true
    branch set other others true is order later rest =
        and_from (list_all (λ later. leb (place_of set) (place_of later)) (other ∷ others)) (in_order (other ∷ others))
        (and_from (leb (place_of set) (place_of other)) (list_all (λ later. leb (place_of set) (place_of later)) others) is
        (list_all-later (λ later. leb (place_of other) (place_of later)) (λ later. leb (place_of set) (place_of later))
        (λ set' above. le-leb (place_of set) (place_of set') (omega (arith, leb-true (place_of set) (place_of other) is, leb-true (place_of other) (place_of set') above)))
        others later))
        order
    branch set other others false is order later rest =
        and_from (list_all (λ later. leb (place_of other) (place_of later)) (put_in set others)) (in_order (put_in set others))
        (list_all-put_in (λ later. leb (place_of other) (place_of later)) set others
        (le-leb (place_of other) (place_of set) (omega (arith, leb-false (place_of set) (place_of other) is))) later)
        rest

pub number_at-sorted : (kind : ℕ) (sets : List Set) → number_at kind (sorted sets) ≡ number_at kind sets
number_at-sorted kind [] = refl
number_at-sorted kind (set ∷ others) = number_at-put_in kind set (sorted others) ∙ ap (λ n. in_set kind set + n) (number_at-sorted kind others)

pub length-sorted : (sets : List Set) → length (sorted sets) ≡ length sets
length-sorted [] = refl
length-sorted (set ∷ others) = length-put_in set (sorted others) ∙ ap suc (length-sorted others)

pub list_all-sorted : (p : Set → Bool) (sets : List Set) → list_all p sets ≡ true → list_all p (sorted sets) ≡ true
list_all-sorted p [] each = refl
list_all-sorted p (set ∷ others) each =
    let parts = and_parts (p set) (list_all p others) each in list_all-put_in p set (sorted others) parts.0 (list_all-sorted p others parts.1)

pub in_order-sorted : (sets : List Set) → in_order (sorted sets) ≡ true
unfolding in_order
in_order-sorted [] = refl
in_order-sorted (set ∷ others) = in_order-put_in set (sorted others) (in_order-sorted others)
