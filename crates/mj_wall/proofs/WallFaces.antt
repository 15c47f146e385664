-- What a wall is made of, and that tiles are a wall exactly where no place of them is wrong.
use Rattle.std.proofs.Common.{◌≡◌, ◌≢◌, ℕ, ◌+◌, ◌<◌, ◌≤◌, Bool, true, false, Option, Some, None, List, [], ◌∷◌, ◌++◌, length}
use Rattle.std.proofs.Common.{get_or, map, arith, inl, inr, refl, sym, ap, ◌∙◌, subst, cond, eqb, leb, ltb, append_assoc}
use Rattle.std.specs.Prelude.{All, is_none}
use Rattle.std.specs.Str.{bytes_eq}
use Rattle.std.proofs.lemmas.Bool.Decides.{same_from_decides}
use Rattle.std.proofs.lemmas.Slice.Eq.{bytes_eq-Decides}
use Rattle.std.specs.List.{list_all, range_with_len}
use Rattle.std.proofs.lemmas.Bool.{and_parts, and_from, cases_eq, cases_lt, false≢true, eq-eqb, eqb-true, le-ltb, lt-leb, ltb-true, ne_eqb}
use Rattle.std.proofs.lemmas.List.FromFn.{get_or-map-range_with_len}
use Rattle.std.proofs.lemmas.List.{append-nil}
use Rattle.std.proofs.lemmas.List.Elements.{All-nil, All-cons, All-head, All-tail}
use Rattle.mj_tiles.specs.Faces.{number_in, tile_order}
use Rattle.mj_wall.specs.Places.{number_in_wall, first_extra, wrong_length, bad_place_by, bad_place, is_wall}
use Rattle.mj_wall.proofs.TileOrder.{total, total-all, number-cons, passes_face, known-total}
use Rattle.mj_tiles.proofs.CountSteps.{number_in-push}
use Rattle.mj_wall.specs.Inner.FaceCounts.{face_counts}
use Rattle.mj_wall.proofs.FaceCounts.{get_or-face_counts}
use Rattle.mj_wall.proofs.Extras.{AreWithin, none_above, not_found, within-none, within-push, allowed, allowed-all, total-le}

-- A wall has 136 tiles.
pub wall_has_136 : (red : Bool) (wall : List ℕ) → is_wall red wall ≡ true → length wall ≡ 136
unfolding is_wall
wall_has_136 red wall h = eqb-true (length wall) 136 (and_parts (eqb (length wall) 136) _ h).0

-- The faces of the game, each as often as a wall has it.
abbrev has_faces : Bool → List ℕ → List ℕ → Bool
has_faces red tiles faces = list_all (λ face. eqb (number_in tiles face) (number_in_wall red face)) faces

total-faces : (red : Bool) (tiles faces : List ℕ) → has_faces red tiles faces ≡ true → total tiles faces ≡ allowed red faces
total-faces red tiles [] h = refl
total-faces red tiles (face ∷ faces) h =
    let parts = and_parts (eqb (number_in tiles face) (number_in_wall red face)) (has_faces red tiles faces) h in
    let here = eqb-true (number_in tiles face) (number_in_wall red face) parts.0 in
    let rest = total-faces red tiles faces parts.1 in
    omega arith

-- Each tile of a wall is a face of the game.
pub wall_faces : (red : Bool) (wall : List ℕ) → is_wall red wall ≡ true → All (λ t. t < 37) wall
unfolding is_wall
wall_faces red wall h =
    let parts = and_parts (eqb (length wall) 136) (has_faces red wall tile_order) h in
    known-total wall (total-faces red wall tile_order parts.1 ∙ allowed-all red ∙ sym (eqb-true (length wall) 136 parts.0))

-- A face above those of the game doesn't stand among them.
no_such_face : (tiles : List ℕ) (face : ℕ) → All (λ t. t < 37) tiles → 37 ≤ face → number_in tiles face ≡ 0
no_such_face [] face h above = refl
no_such_face (t ∷ ts) face h above =
    let below = All-head (λ x. x < 37) t ts h in
    none (eqb t face) _ _ (ne_eqb t face (λ e. omega (arith, below, above, e))) (number-cons t face ts) (no_such_face ts face (All-tail (λ x. x < 37) t ts h) above)
  where
    none : (b : Bool) (n m : ℕ) → b ≡ false → m ≡ cond b 1 0 + n → n ≡ 0 → m ≡ 0
    none true n m e h k = cc
    none false n m e h k = omega (arith, h, k)

-- Each face stands in a wall as often as it should.
pub wall_has_each : (red : Bool) (wall : List ℕ) (face : ℕ) → is_wall red wall ≡ true → number_in wall face ≡ number_in_wall red face
unfolding is_wall
wall_has_each red wall face h = elim (cases_lt face 37) [
  | inl below ↦ eqb-true (number_in wall face) (number_in_wall red face)
      (passes_face (λ f. eqb (number_in wall f) (number_in_wall red f)) face (and_parts (eqb (length wall) 136) (has_faces red wall tile_order) h).1 below)
  | inr above ↦ no_such_face wall face (wall_faces red wall h) above ∙ sym (none_above red face above)
]

-- Where no face from some number on stands among tiles, each tile is below it.
all_below : (n : ℕ) (tiles : List ℕ) → ((face : ℕ) → n ≤ face → number_in tiles face ≡ 0) → All (λ t. t < n) tiles
all_below n [] none = All-nil (λ t. t < n)
all_below n (t ∷ ts) none =
    All-cons (λ x. x < n) t ts
    (elim (cases_lt t n) [
      | inl below ↦ below
      | inr above ↦ stands (eqb t t) _ _ t n (eq-eqb t t refl) (number-cons t t ts) (none t above)
    ])
    (all_below n ts (λ face above. rest (eqb t face) _ _ (number-cons t face ts) (none face above)))
  where
    stands : (b : Bool) (n m t least : ℕ) → b ≡ true → m ≡ cond b 1 0 + n → m ≡ 0 → t < least
    stands true n m t least e h k = absurd (omega (arith, h, k))
    stands false n m t least e h k = absurd (false≢true e)

    rest : (b : Bool) (n m : ℕ) → m ≡ cond b 1 0 + n → m ≡ 0 → n ≡ 0
    rest true n m h k = omega (arith, h, k)
    rest false n m h k = omega (arith, h, k)

-- Without red fives each tile of a wall is a plain one.
pub wall_plain_faces : (wall : List ℕ) → is_wall false wall ≡ true → All (λ t. t < 34) wall
wall_plain_faces wall h = all_below 34 wall (λ face above. wall_has_each false wall face h ∙ none_red face above)
  where
    none_red : (t : ℕ) → 34 ≤ t → number_in_wall false t ≡ 0
    none_red t h = rw (le-ltb t 34 h) refl

-- Where no face stands more often than it should, no tile is one too many.
none_extra : (red : Bool) (before tiles : List ℕ) → ((face : ℕ) → number_in before face + number_in tiles face ≤ number_in_wall red face) → first_extra red before tiles ≡ None
none_extra red before [] few = refl
none_extra red before (t ∷ ts) few =
    let passed = lt-leb (number_in_wall red t) (number_in before t) (room (eqb t t) _ _ _ _ (eq-eqb t t refl) (number-cons t t ts) (few t)) in
    rw passed (none_extra red (before ++ t ∷ []) ts (λ face. moved _ _ _ _ _ _ (number_in-push before t face) (number-cons t face ts) (few face)))
  where
    room : (b : Bool) (before n m most : ℕ) → b ≡ true → m ≡ cond b 1 0 + n → before + m ≤ most → before < most
    room true before n m most e h k = omega (arith, h, k)
    room false before n m most e h k = absurd (false≢true e)

    moved : (a b c x y most : ℕ) → a ≡ b + x → c ≡ x + y → b + c ≤ most → a + y ≤ most
    moved a b c x y most h k few = omega arith

-- Where no tile is one too many, no face stands more often than it should.
within_all : (red : Bool) (before tiles : List ℕ) → AreWithin red before → first_extra red before tiles ≡ None → AreWithin red (before ++ tiles)
within_all red before [] within h = subst (AreWithin red) (sym (append-nil before)) within
within_all red before (t ∷ ts) within h =
    let parts = not_found (leb (number_in_wall red t) (number_in before t)) (length before) (first_extra red (before ++ t ∷ []) ts) h in
    subst (AreWithin red) (append_assoc before (t ∷ []) ts) (within_all red (before ++ t ∷ []) ts (within-push red before t within parts.0) parts.1)

-- Where all faces together are as many as they should, and none stands more often, each stands as often as it should.
has_faces_all : (red : Bool) (tiles faces : List ℕ) → ((face : ℕ) → number_in tiles face ≤ number_in_wall red face) → total tiles faces ≡ allowed red faces → has_faces red tiles faces ≡ true
has_faces_all red tiles [] few h = refl
has_faces_all red tiles (face ∷ faces) few h =
    let here = few face in
    let rest = total-le red tiles faces few in
    and_from _ _ (eq-eqb (number_in tiles face) (number_in_wall red face) (omega arith)) (has_faces_all red tiles faces few (omega arith))

-- 136 tiles of which none is one too many are a wall.
pub whole_wall : (red : Bool) (tiles : List ℕ) → first_extra red [] tiles ≡ None → length tiles ≡ 136 → is_wall red tiles ≡ true
unfolding is_wall
whole_wall red tiles none long =
    let within = within_all red [] tiles (within-none red) none in
    and_from _ _ (eq-eqb (length tiles) 136 long) (has_faces_all red tiles tile_order within.few (total-all tiles within.known ∙ long ∙ sym (allowed-all red)))

-- No place of a wall is wrong.
none_wrong : (red : Bool) (tiles : List ℕ) → is_wall red tiles ≡ true → bad_place red tiles ≡ None
unfolding bad_place
none_wrong red tiles h =
    ap (λ extra. bad_place_by extra (length tiles)) (none_extra red [] tiles (λ face. exactly _ _ (wall_has_each red tiles face h)))
    ∙ ap wrong_length (wall_has_136 red tiles h)
  where
    exactly : (n most : ℕ) → n ≡ most → 0 + n ≤ most
    exactly n most h = omega arith

-- A number of tiles that is not wrong is 136.
right_length : (n : ℕ) → is_none (wrong_length n) ≡ true → n ≡ 136
right_length n h = elim (cases_eq n 136) [
  | inl e ↦ e
  | inr other ↦ let wrong = rw (ne_eqb n 136 other) at h in absurd (false≢true wrong)
]

-- Where no place is bad, none is one too many, and there are 136.
no_bad_place : (extra : Option ℕ) (n : ℕ) → is_none (bad_place_by extra n) ≡ true → (extra ≡ None) × (n ≡ 136)
no_bad_place None n h = (refl, right_length n h)
no_bad_place (Some place) n h = absurd (false≢true h)

-- Tiles are a wall exactly where no place of them is wrong.
pub wall_by_place : (red : Bool) (tiles : List ℕ) → is_wall red tiles ≡ is_none (bad_place red tiles)
unfolding bad_place
wall_by_place red tiles =
    same _ _
    (λ h. ap is_none (none_wrong red tiles h))
    (λ h. let parts = no_bad_place (first_extra red [] tiles) (length tiles) h in whole_wall red tiles parts.0 parts.1)
  where
    same : (a b : Bool) → (a ≡ true → b ≡ true) → (b ≡ true → a ≡ true) → a ≡ b
    same true b there back = sym (there refl)
    same false true there back = back refl
    same false false there back = refl

-- Another number of tiles than 136 is no wall.
pub other_length : (red : Bool) (tiles : List ℕ) → length tiles ≢ 136 → is_wall red tiles ≡ false
unfolding is_wall
other_length red tiles h = rw (ne_eqb (length tiles) 136 h) refl

-- A number of tiles of which none is one too many, and which are no wall, is not 136.
pub no_whole_wall : (red : Bool) (tiles : List ℕ) → first_extra red [] tiles ≡ None → is_wall red tiles ≡ false → length tiles ≢ 136
no_whole_wall red tiles none h long = absurd (false≢true (sym h ∙ whole_wall red tiles none long))

-- What holds of each face of the game holds of all of these.
holds_of_each : (p : ℕ → Bool) (faces : List ℕ) → list_all (λ face. ltb face 37) faces ≡ true → ((face : ℕ) → face < 37 → p face ≡ true) → list_all p faces ≡ true
holds_of_each p [] below h = refl
holds_of_each p (face ∷ faces) below h =
    let parts = and_parts (ltb face 37) (list_all (λ x. ltb x 37) faces) below in
    and_from _ _ (h face (ltb-true face 37 parts.0)) (holds_of_each p faces parts.1 h)

-- 136 tiles that are as many of each face of the game as they should are a wall.
pub wall_by_counts : (red : Bool) (tiles : List ℕ) → length tiles ≡ 136 → face_counts tiles ≡ map (number_in_wall red) (range_with_len 0 37) → is_wall red tiles ≡ true
unfolding is_wall tile_order
wall_by_counts red tiles long counts =
    and_from _ _ (eq-eqb (length tiles) 136 long) (holds_of_each (λ face. eqb (number_in tiles face) (number_in_wall red face)) tile_order refl (λ face inside.
    eq-eqb (number_in tiles face) (number_in_wall red face) (sym (get_or-face_counts tiles face inside) ∙ ap (λ xs. get_or xs face 0) counts ∙ wanted face inside)))
  where
    wanted : (face : ℕ) → face < 37 → get_or (map (number_in_wall red) (range_with_len 0 37)) face 0 ≡ number_in_wall red face
    wanted face inside = get_or-map-range_with_len (number_in_wall red) 0 37 face face 0 inside (omega arith)

-- A wall has each face of the game as often as it should.
pub counts_of_wall : (red : Bool) (tiles : List ℕ) → is_wall red tiles ≡ true → face_counts tiles ≡ map (number_in_wall red) (range_with_len 0 37)
unfolding face_counts
counts_of_wall red tiles h = all_same (number_in tiles) (number_in_wall red) (λ face. wall_has_each red tiles face h) (range_with_len 0 37)
  where
    all_same : (f g : ℕ → ℕ) → ((x : ℕ) → f x ≡ g x) → (xs : List ℕ) → map f xs ≡ map g xs
    all_same f g same [] = refl
    all_same f g same (x ∷ xs) = rw (same x) (ap (λ ys. g x ∷ ys) (all_same f g same xs))

-- Whether 136 tiles are a wall is whether their counts are those of a wall.
pub whole_by_counts : (red : Bool) (tiles counts copies : List ℕ) (same : Bool) → length tiles ≡ 136 → counts ≡ face_counts tiles →
    copies ≡ map (number_in_wall red) (range_with_len 0 37) → same ≡ bytes_eq counts copies → same ≡ is_wall red tiles
whole_by_counts red tiles counts copies same long are wanted is = is ∙ same_from_decides (bytes_eq counts copies) (is_wall red tiles) (bytes_eq-Decides counts copies)
    ((λ h. are ∙ counts_of_wall red tiles h ∙ sym wanted), (λ e. wall_by_counts red tiles long (sym are ∙ e ∙ wanted)))
