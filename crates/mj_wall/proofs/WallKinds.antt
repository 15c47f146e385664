-- No kind stands more than four times in a wall, and so no more than four times among tiles of different places of it.
use Rattle.std.proofs.Common.{◌≡◌, ℕ, zero, suc, ◌+◌, ◌-◌, ◌*◌, ◌<◌, ◌≤◌, ◌==◌, Bool, true, false, List, [], ◌∷◌, length}
use Rattle.std.proofs.Common.{get_or, take, arith, inl, inr, refl, sym, ap, ◌∙◌, subst, cond, eqb, leb, add-one}
use Rattle.std.specs.Prelude.{All, sum_by, if◌then◌else◌}
use Rattle.std.proofs.lemmas.Bool.{cases_eq, eqb-true, leb-true, agree_below, agree_below_at}
use Rattle.std.proofs.lemmas.List.Sums.{sum_by-cons, sum_by_more}
use Rattle.std.proofs.lemmas.List.Elements.{All-head, All-tail}
use Rattle.mj_tiles.specs.Faces.{kind_of, number_in}
use Rattle.mj_tiles.specs.Counts.{number_of}
use Rattle.mj_wall.specs.Places.{number_in_wall, is_wall}
use Rattle.mj_wall.proofs.WallFaces.{wall_faces, wall_has_each}

-- The red five of a kind; of a kind without one the number of no face.
abbrev red_face : ℕ → ℕ
red_face kind = if kind == 4 then 34 else (if kind == 13 then 35 else (if kind == 22 then 36 else 37))

-- A tile is of a kind where it has the plain face of that kind or its red one.
abbrev splits : ℕ → ℕ → Bool
splits kind t = eqb (cond (eqb (kind_of t) kind) 1 0) (cond (eqb t kind) 1 0 + cond (eqb t (red_face kind)) 1 0)

each_splits : (kind t : ℕ) → kind < 34 → t < 37 → splits kind t ≡ true
each_splits kind t h g =
    agree_below_at (splits kind) (λ t. true) 37 t (agree_below_at (λ k. agree_below (splits k) (λ t. true) 37) (λ k. true) 34 kind refl h) g

number_of-splits : (kind : ℕ) (tiles : List ℕ) → kind < 34 → All (λ t. t < 37) tiles → number_of tiles kind ≡ number_in tiles kind + number_in tiles (red_face kind)
number_of-splits kind [] h faces = refl
number_of-splits kind (t ∷ ts) h faces =
    let rest = number_of-splits kind ts h (All-tail (λ x. x < 37) t ts faces) in
    let here = eqb-true _ _ (each_splits kind t h (All-head (λ x. x < 37) t ts faces)) in
    added _ _ _ _ _ _ _ _ _
    (sum_by-cons (λ x. cond (eqb (kind_of x) kind) 1 0) t ts)
    (sum_by-cons (λ x. cond (eqb x kind) 1 0) t ts)
    (sum_by-cons (λ x. cond (eqb x (red_face kind)) 1 0) t ts)
    here rest
  where
    added : (a b c x y z p q r : ℕ) → a ≡ x + p → b ≡ y + q → c ≡ z + r → x ≡ y + z → p ≡ q + r → a ≡ b + c
    added a b c x y z p q r e f g h k = omega arith

-- Of no kind has a wall more than four places.
room_for : Bool → ℕ → Bool
room_for red kind = leb (number_in_wall red kind + number_in_wall red (red_face kind)) 4

room_for_each : (red : Bool) (kind : ℕ) → kind < 34 → room_for red kind ≡ true
unfolding room_for
room_for_each true kind h = agree_below_at (room_for true) (λ k. true) 34 kind refl h
room_for_each false kind h = agree_below_at (room_for false) (λ k. true) 34 kind refl h

-- No kind stands more than four times in a wall.
pub wall_has_four : (red : Bool) (wall : List ℕ) (kind : ℕ) → is_wall red wall ≡ true → kind < 34 → number_of wall kind ≤ 4
unfolding room_for
wall_has_four red wall kind h small =
    four _ _ _ _ _
    (number_of-splits kind wall small (wall_faces red wall h))
    (wall_has_each red wall kind h)
    (wall_has_each red wall (red_face kind) h)
    (leb-true _ 4 (room_for_each red kind small))
  where
    four : (a b c u w : ℕ) → a ≡ b + c → b ≡ u → c ≡ w → u + w ≤ 4 → a ≤ 4
    four a b c u w e f g h = omega arith

-- The sum of what a function gives at the first numbers.
unfoldable pub up : (ℕ → ℕ) → ℕ → ℕ
up f zero = 0
up f (suc n) = up f n + f n

up-le : (f : ℕ → ℕ) (m n : ℕ) → m ≤ n → up f m ≤ up f n
unfolding up
up-le f zero n h = omega arith
up-le f (suc m) zero h = absurd (omega arith)
up-le f (suc m) (suc n) h = elim (cases_eq m n) [
  | inl e ↦ subst (λ k. up f (suc m) ≤ up f (suc k)) e (omega arith)
  | inr ne ↦ longer _ _ _ (up-le f (suc m) n (omega arith))
]
  where
    longer : (a b c : ℕ) → a ≤ b → a ≤ b + c
    longer a b c h = omega arith

pub up-split : (f : ℕ → ℕ) (m n k : ℕ) → k ≡ m + n → up f k ≡ up f m + up (λ i. f (m + i)) n
unfolding up
up-split f m zero k e = subst (λ x. up f x ≡ up f m + 0) (sym (none k m e)) (plus (up f m))
  where
    none : (k m : ℕ) → k ≡ m + 0 → k ≡ m
    none k m e = omega arith

    plus : (a : ℕ) → a ≡ a + 0
    plus a = omega arith
up-split f m (suc n) zero e = absurd (omega arith)
up-split f m (suc n) (suc k) e =
    let one : k ≡ m + n = omega arith in
    more _ _ _ _ _ (up-split f m n k one) (ap f one)
  where
    more : (a b c x y : ℕ) → a ≡ b + c → x ≡ y → a + x ≡ b + (c + y)
    more a b c x y e f = omega arith

-- The sum over the beginning of a list, place by place.
pub up-take : (f : ℕ → ℕ) (xs : List ℕ) (n : ℕ) → n ≤ length xs → sum_by f (take n xs) ≡ up (λ i. f (get_or xs i 0)) n
unfolding up
up-take f xs zero h = refl
up-take f xs (suc n) h =
    ap (λ m. sum_by f (take m xs)) (sym (add-one n)) ∙ sum_by_more f xs n 0 (omega arith) ∙ ap (λ s. s + f (get_or xs n 0)) (up-take f xs n (omega arith))

-- The places of what is dealt, of up to 70 live draws, of up to five indicators and of up to four replacement tiles are
-- places of the wall, and no two are the same.
pub places_are_apart : (f : ℕ → ℕ) (draws shown taken : ℕ) → draws ≤ 70 → shown ≤ 5 → taken ≤ 4 →
    up f 52 + up (λ k. f (52 + k)) draws + up (λ k. f (131 - 2 * k)) shown + up (λ k. f (135 - k)) taken ≤ up f 136
unfolding up
places_are_apart f draws shown taken h i j =
    let a : up f 136 ≡ up f 52 + up (λ k. f (52 + k)) 84 = up-split f 52 84 136 refl in
    let b : up (λ k. f (52 + k)) 84 ≡ up (λ k. f (52 + k)) 70 + up (λ k. f (52 + (70 + k))) 14 = up-split (λ k. f (52 + k)) 70 14 84 refl in
    let c : up (λ k. f (52 + (70 + k))) 14 ≡ 0 + f 122 + f 123 + f 124 + f 125 + f 126 + f 127 + f 128 + f 129 + f 130 + f 131 + f 132 + f 133 + f 134 + f 135 = refl in
    let d : up (λ k. f (131 - 2 * k)) 5 ≡ 0 + f 131 + f 129 + f 127 + f 125 + f 123 = refl in
    let e : up (λ k. f (135 - k)) 4 ≡ 0 + f 135 + f 134 + f 133 + f 132 = refl in
    total _ _ _ _ _ _ _ _ _ _ (f 122) (f 123) (f 124) (f 125) (f 126) (f 127) (f 128) (f 129) (f 130) (f 131) (f 132) (f 133) (f 134) (f 135)
    a b c d e (up-le (λ k. f (52 + k)) draws 70 h) (up-le (λ k. f (131 - 2 * k)) shown 5 i) (up-le (λ k. f (135 - k)) taken 4 j)
  where
    total : (t p r s q w x y u v o1 o2 o3 o4 o5 o6 o7 o8 o9 u1 u2 u3 u4 u5 : ℕ) →
        t ≡ p + r → r ≡ s + q → q ≡ 0 + o1 + o2 + o3 + o4 + o5 + o6 + o7 + o8 + o9 + u1 + u2 + u3 + u4 + u5 →
        u ≡ 0 + u1 + o8 + o6 + o4 + o2 → v ≡ 0 + u5 + u4 + u3 + u2 → w ≤ s → x ≤ u → y ≤ v → p + w + x + y ≤ t
    total t p r s q w x y u v o1 o2 o3 o4 o5 o6 o7 o8 o9 u1 u2 u3 u4 u5 a b c d e f g h = omega arith
