-- Tiles of which none is one too many: one tile more, and how many there can be.
use Rattle.std.proofs.Common.{◌≡◌, ℕ, ◌+◌, ◌-◌, ◌<◌, ◌≤◌, ◌^◌, Bool, true, false, Option, Some, None, List, [], ◌∷◌, ◌++◌, length, take, drop, get_or}
use Rattle.std.proofs.Common.{set, map, length-set, get_or-set_same, get_or-set_other, arith, ◌⊎◌, inl, inr, refl, sym, ap, ◌∙◌, cond, leb, eqb}
use Rattle.std.specs.Prelude.{All}
use Rattle.std.specs.List.{range_with_len}
use Rattle.std.proofs.lemmas.Bool.{cases_eq, cases_lt, le-ltb, eq-eqb, ne_eqb, leb-false, lt-leb, le-leb}
use Rattle.std.proofs.lemmas.List.{take_more, drop_more, length-take-le}
use Rattle.std.proofs.lemmas.List.FromFn.{get_or-map-range_with_len}
use Rattle.std.proofs.lemmas.List.Elements.{All-nil, All-push}
use Rattle.mj_tiles.specs.Faces.{number_in, tile_order}
use Rattle.mj_tiles.proofs.CountSteps.{number_in-push}
use Rattle.mj_wall.specs.Places.{number_in_wall, first_extra}
use Rattle.mj_wall.proofs.TileOrder.{total, total-all}

-- No face from 37 on stands in a wall.
pub none_above : (red : Bool) (face : ℕ) → 37 ≤ face → number_in_wall red face ≡ 0
none_above true face h = rw (le-ltb face 34 (omega arith)) (rw (le-ltb face 37 h) refl)
none_above false face h = rw (le-ltb face 34 (omega arith)) refl

-- Where no place is found, the tile is not one too many, and none after it is.
pub not_found : (extra : Bool) (place : ℕ) (rest : Option ℕ) → cond extra (Some place) rest ≡ None → (extra ≡ false) × (rest ≡ None)
not_found true place rest h = cc
not_found false place rest h = (refl, h)

-- A tile that is not one too many is a face of the game.
pub face_below : (red : Bool) (before : List ℕ) (t : ℕ) → leb (number_in_wall red t) (number_in before t) ≡ false → t < 37
face_below red before t h = elim (cases_lt t 37) [
  | inl below ↦ below
  | inr above ↦ absurd (omega (arith, leb-false (number_in_wall red t) (number_in before t) h, none_above red t above))
]

-- Tiles of which none is one too many of its face.
pub record AreWithin (red : Bool) (tiles : List ℕ) : Type 0 where
  pub known : All (λ t. t < 37) tiles
  pub few : (face : ℕ) → number_in tiles face ≤ number_in_wall red face

pub within-none : (red : Bool) → AreWithin red []
within-none red = record { known = All-nil (λ t. t < 37); few = λ face. omega arith }

few-push : (red : Bool) (tiles : List ℕ) (t face : ℕ) → number_in tiles t < number_in_wall red t → number_in tiles face ≤ number_in_wall red face →
    number_in (tiles ++ t ∷ []) face ≤ number_in_wall red face
few-push red tiles t face room before = elim (cases_eq t face) [
  | inl e ↦ few_same red tiles t face e room (number_in-push tiles t face) (eq-eqb t face e)
  | inr n ↦ few_other red tiles t face before (number_in-push tiles t face) (ne_eqb t face n)
]
  where
    few_same : (red : Bool) (tiles : List ℕ) (t face : ℕ) → t ≡ face → number_in tiles t < number_in_wall red t →
        number_in (tiles ++ t ∷ []) face ≡ number_in tiles face + cond (eqb t face) 1 0 → eqb t face ≡ true →
        number_in (tiles ++ t ∷ []) face ≤ number_in_wall red face
    few_same red tiles t face e room push same =
        let here = rw same at push in
        let there = rw e at room in
        omega arith

    few_other : (red : Bool) (tiles : List ℕ) (t face : ℕ) → number_in tiles face ≤ number_in_wall red face →
        number_in (tiles ++ t ∷ []) face ≡ number_in tiles face + cond (eqb t face) 1 0 → eqb t face ≡ false →
        number_in (tiles ++ t ∷ []) face ≤ number_in_wall red face
    few_other red tiles t face before push other =
        let here = rw other at push in
        omega arith

-- One tile more that is not one too many.
pub within-push : (red : Bool) (tiles : List ℕ) (t : ℕ) → AreWithin red tiles → leb (number_in_wall red t) (number_in tiles t) ≡ false → AreWithin red (tiles ++ t ∷ [])
within-push red tiles t within passed = record {
  known = All-push (λ x. x < 37) tiles t within.known (face_below red tiles t passed);
  few = λ face. few-push red tiles t face (leb-false (number_in_wall red t) (number_in tiles t) passed) (within.few face);
}

-- How many tiles of these faces a wall has.
abbrev pub allowed : Bool → List ℕ → ℕ
allowed red [] = 0
allowed red (face ∷ faces) = number_in_wall red face + allowed red faces

pub allowed-all : (red : Bool) → allowed red tile_order ≡ 136
unfolding tile_order
allowed-all true = refl
allowed-all false = refl

pub total-le : (red : Bool) (tiles faces : List ℕ) → ((face : ℕ) → number_in tiles face ≤ number_in_wall red face) → total tiles faces ≤ allowed red faces
total-le red tiles [] few = omega arith
total-le red tiles (face ∷ faces) few =
    let rest = total-le red tiles faces few in
    let here = few face in
    omega arith

-- So there are at most 136.
pub within-few : (red : Bool) (tiles : List ℕ) → AreWithin red tiles → length tiles ≤ 136
within-few red tiles within =
    let all = total-all tiles within.known in
    let most = total-le red tiles tile_order within.few in
    let whole = allowed-all red in
    omega arith

-- A list goes on with the tile at a place.
drop_at : (tiles : List ℕ) (i t : ℕ) → i < length tiles → t ≡ get_or tiles i t → drop i tiles ≡ t ∷ drop (i + 1) tiles
drop_at tiles i t inside is = drop_more tiles i t inside ∙ ap (λ x. x ∷ drop (i + 1) tiles) (sym is)

take_at : (tiles : List ℕ) (i t : ℕ) → i < length tiles → t ≡ get_or tiles i t → take (i + 1) tiles ≡ take i tiles ++ t ∷ []
take_at tiles i t inside is = take_more tiles i t inside ∙ ap (λ x. take i tiles ++ x ∷ []) (sym is)

-- The place of a tile that is one too many is small.
pub place_fits : (red : Bool) (tiles : List ℕ) (i : ℕ) → i < length tiles → AreWithin red (take i tiles) → i < 2 ^ 32
place_fits red tiles i inside within =
    let few = within-few red (take i tiles) within in
    let long = length-take-le i tiles (omega arith) in
    omega arith

-- A tile that is one too many is the first such, where none before it is.
pub extra_found : (red : Bool) (tiles : List ℕ) (i t most before : ℕ) → i < length tiles → t ≡ get_or tiles i t →
    most ≡ number_in_wall red t → before ≡ number_in (take i tiles) t → most ≤ before →
    first_extra red (take i tiles) (drop i tiles) ≡ first_extra red [] tiles → Some i ≡ first_extra red [] tiles
extra_found red tiles i t most before inside is most_is before_is over same =
    let extra : leb (number_in_wall red t) (number_in (take i tiles) t) ≡ true = le-leb (number_in_wall red t) (number_in (take i tiles) t) (omega arith) in
    let here = rw (drop_at tiles i t inside is) at same in
    let found = rw extra at here in
    ap Some (sym (length-take-le i tiles (omega arith))) ∙ found

-- Past a tile that is not one too many the search goes on, and still none is one too many.
pub extra_passed : (red : Bool) (tiles : List ℕ) (i t most before : ℕ) → i < length tiles → t ≡ get_or tiles i t →
    most ≡ number_in_wall red t → before ≡ number_in (take i tiles) t → before < most →
    first_extra red (take i tiles) (drop i tiles) ≡ first_extra red [] tiles → AreWithin red (take i tiles) →
    (first_extra red (take (i + 1) tiles) (drop (i + 1) tiles) ≡ first_extra red [] tiles) × AreWithin red (take (i + 1) tiles)
extra_passed red tiles i t most before inside is most_is before_is under same within =
    let passed : leb (number_in_wall red t) (number_in (take i tiles) t) ≡ false = lt-leb (number_in_wall red t) (number_in (take i tiles) t) (omega arith) in
    let here = rw (drop_at tiles i t inside is) at same in
    let found = rw passed at here in
    rw (take_at tiles i t inside is) (found, within-push red (take i tiles) t within passed)

-- For each face of the game how many of it a wall has beside these tiles.
pub record AreLeft (red : Bool) (left tiles : List ℕ) : Type 0 where
  pub size : length left ≡ 37
  pub each : (face : ℕ) → face < 37 → get_or left face 0 + number_in tiles face ≡ number_in_wall red face

-- Beside no tiles all of them.
pub left-all : (red : Bool) → AreLeft red (map (number_in_wall red) (range_with_len 0 37)) []
left-all red = record {
  size = refl;
  each = λ face inside. plus_none _ _ (get_or-map-range_with_len (number_in_wall red) 0 37 face face 0 inside (omega arith));
}
  where
    plus_none : (a b : ℕ) → a ≡ b → a + 0 ≡ b
    plus_none a b e = omega (arith, e)

-- How many are left of the face of a tile.
pub left_of : (red : Bool) (left tiles : List ℕ) (t place : ℕ) → place ≡ t → t < 37 → AreLeft red left tiles → get_or left place 0 + number_in tiles t ≡ number_in_wall red t
left_of red left tiles t place at below are = rw at (are.each t below)

-- The tile at the next place is one of them.
pub left-next : (red : Bool) (left tiles : List ℕ) (i t place : ℕ) → i < length tiles → t ≡ get_or tiles i t → place ≡ t → t < 37 → 0 < get_or left place 0 →
    AreLeft red left (take i tiles) → AreLeft red (set left place (get_or left place 0 - 1)) (take (i + 1) tiles)
left-next red left tiles i t place inside is at below some are = rw (take_at tiles i t inside is) (rw at (push left (take i tiles) t below (rw at at some) are))
  where
    one : (left before : List ℕ) (t face : ℕ) → t < 37 → face < 37 → 0 < get_or left t 0 → AreLeft red left before → (t ≡ face) ⊎ (t ≡ face → ⊥) →
        get_or (set left t (get_or left t 0 - 1)) face 0 + number_in (before ++ t ∷ []) face ≡ number_in_wall red face
    one left before t face below inside some are (inl same) =
        grind (arith, same, are.each face inside, are.size, some, number_in-push before t face, eq-eqb t face same, get_or-set_same left t (get_or left t 0 - 1) 0)
    one left before t face below inside some are (inr other) =
        grind (arith, are.each face inside, number_in-push before t face, ne_eqb t face other, get_or-set_other left t face (get_or left t 0 - 1) 0)

    push : (left before : List ℕ) (t : ℕ) → t < 37 → 0 < get_or left t 0 → AreLeft red left before → AreLeft red (set left t (get_or left t 0 - 1)) (before ++ t ∷ [])
    push left before t below some are = record {
      size = length-set left t (get_or left t 0 - 1) ∙ are.size;
      each = λ face inside. one left before t face below inside some are (cases_eq t face);
    }
