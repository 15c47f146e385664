-- Walls of a seed: each is a wall, and so many are so many.
use Rattle.std.proofs.Common.{◌≡◌, ℕ, zero, suc, ◌+◌, ◌-◌, ◌<◌, ◌%◌, Bool, true, List, [], ◌∷◌, ◌++◌, length, refl, sym, subst, arith}
use Rattle.std.specs.List.{list_all, swap}
use Rattle.std.proofs.Math.Nat.{mod-lt}
use Rattle.std.proofs.lemmas.List.Edits.{length-swap}
use Rattle.std.proofs.lemmas.List.Sorted.{IsPermutation-swap}
use Rattle.mj_wall.specs.Places.{is_wall}
use Rattle.mj_wall.specs.Shuffle.{sorted_wall, swapped_from, drawn_number, shuffled_wall, shuffled_from}
use Rattle.mj_wall.proofs.Shuffles.{HasWall, sorted_has, swap_has, has_is_wall, AreFrom, from_none, from_more, from_all}

swapped_has : (red : Bool) (number : ℕ → ℕ) (place : ℕ) (tiles : List ℕ) → place < 136 → HasWall red tiles → HasWall red (swapped_from number place tiles)
swapped_has red number zero tiles low has = has
swapped_has red number (suc i) tiles low has =
    swapped_has red number i (swap tiles (suc i) to) (less i low)
    (swap_has red tiles (swap tiles (suc i) to) has
    (IsPermutation-swap tiles (swap tiles (suc i) to) (suc i) to (within (suc i) (length tiles) low has.long)
    (to_within to (suc i) (length tiles) (mod-lt (number (suc i)) (some i)) low has.long) refl)
    (length-swap tiles (suc i) to))
  where
    to : ℕ
    to = number (suc i) % (suc i + 1)

    less : (a : ℕ) → suc a < 136 → a < 136
    less a h = omega (arith, h)

    some : (a : ℕ) → 0 < suc a + 1
    some a = omega arith

    within : (a b : ℕ) → a < 136 → b ≡ 136 → a < b
    within a b h e = omega (arith, h, e)

    to_within : (a b c : ℕ) → a < b + 1 → b < 136 → c ≡ 136 → a < c
    to_within a b c h k e = omega (arith, h, k, e)

wall_is : (seed : List ℕ) (n : ℕ) (red : Bool) → is_wall red (shuffled_wall seed n red) ≡ true
unfolding shuffled_wall
wall_is seed n red = has_is_wall red _ (swapped_has red (λ i. drawn_number seed n (135 - i)) 135 (sorted_wall red) (omega arith) (sorted_has red (sorted_wall red) refl))

one_more : (seed : List ℕ) (red : Bool) (first n : ℕ) → AreFrom seed red first (first + n) (shuffled_from seed red first n) →
    AreFrom seed red first (first + suc n) (shuffled_from seed red first n ++ shuffled_wall seed (first + n) red ∷ [])
one_more seed red first n before =
    from_more seed red first (first + n) (first + suc n) (shuffled_wall seed (first + n) red) (shuffled_from seed red first n) _ (next first n) refl (wall_is seed (first + n) red) refl before
  where
    next : (a b : ℕ) → a + suc b ≡ a + b + 1
    next a b = omega arith

all_from : (seed : List ℕ) (red : Bool) (first n : ℕ) → AreFrom seed red first (first + n) (shuffled_from seed red first n)
all_from seed red first zero =
    subst (λ (n : ℕ). AreFrom seed red first n (shuffled_from seed red first zero)) (none first)
    (subst (AreFrom seed red first first) (from_all seed red first zero first [] (none first) (from_none seed red first [] refl)) (from_none seed red first [] refl))
  where
    none : (a : ℕ) → a ≡ a + zero
    none a = omega arith
all_from seed red first (suc n) =
    let more = one_more seed red first n (all_from seed red first n) in
    subst (AreFrom seed red first (first + suc n)) (from_all seed red first (suc n) (first + suc n) _ refl more) more

pub next_from : (seed : List ℕ) (red : Bool) (first n : ℕ) → shuffled_from seed red first (suc n) ≡ shuffled_from seed red first n ++ shuffled_wall seed (first + n) red ∷ []
next_from seed red first n = sym (from_all seed red first (suc n) (first + suc n) _ refl (one_more seed red first n (all_from seed red first n)))

pub many_from : (seed : List ℕ) (red : Bool) (first n : ℕ) → length (shuffled_from seed red first n) ≡ n
many_from seed red first n = alone first _ n (all_from seed red first n).many
  where
    alone : (a b c : ℕ) → a + b ≡ a + c → b ≡ c
    alone a b c e = omega (arith, e)

pub whole_from : (seed : List ℕ) (red : Bool) (first n : ℕ) → list_all (is_wall red) (shuffled_from seed red first n) ≡ true
whole_from seed red first n = (all_from seed red first n).whole
