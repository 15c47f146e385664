-- How many tiles there are of each face, one tile after another.
use Rattle.std.proofs.Common.{◌≡◌, ℕ, ◌+◌, ◌<◌, ◌≤◌, List, [], ◌∷◌, ◌++◌, length, take, get_or, set, replicate, length-set}
use Rattle.std.proofs.Common.{get_or-set_same, get_or-set_other, arith, ◌⊎◌, inl, inr, refl, sym, ◌∙◌, eqb}
use Rattle.std.proofs.lemmas.Bool.{cases_eq, eq-eqb, ne_eqb}
use Rattle.std.proofs.lemmas.Grind.{same_number_lists}
use Rattle.std.proofs.lemmas.List.{take_more, length-take-le}
use Rattle.std.proofs.lemmas.List.Sums.{count_by-le-length}
use Rattle.std.proofs.lemmas.List.FromFn.{length-map-range_with_len, get_or-map-range_with_len}
use Rattle.mj_tiles.specs.Faces.{number_in}
use Rattle.mj_wall.specs.Inner.FaceCounts.{face_counts}
use Rattle.mj_tiles.proofs.CountSteps.{number_in-push}

length-face_counts : (tiles : List ℕ) → length (face_counts tiles) ≡ 37
unfolding face_counts
length-face_counts tiles = length-map-range_with_len (number_in tiles) 0 37

pub get_or-face_counts : (tiles : List ℕ) (face : ℕ) → face < 37 → get_or (face_counts tiles) face 0 ≡ number_in tiles face
unfolding face_counts
get_or-face_counts tiles face inside = get_or-map-range_with_len (number_in tiles) 0 37 face face 0 inside (omega arith)

face_counts-push : (tiles : List ℕ) (tile : ℕ) → tile < 37 → set (face_counts tiles) tile (get_or (face_counts tiles) tile 0 + 1) ≡ face_counts (tiles ++ tile ∷ [])
face_counts-push tiles tile below =
    same_number_lists (set (face_counts tiles) tile (get_or (face_counts tiles) tile 0 + 1)) (face_counts (tiles ++ tile ∷ []))
    (length-set (face_counts tiles) tile (get_or (face_counts tiles) tile 0 + 1) ∙ length-face_counts tiles ∙ sym (length-face_counts (tiles ++ tile ∷ [])))
    (λ face inside.
    let small : face < 37 = omega (arith, length-set (face_counts tiles) tile (get_or (face_counts tiles) tile 0 + 1), length-face_counts tiles) in
    one tiles tile face small below (cases_eq tile face))
  where
    one : (tiles : List ℕ) (tile face : ℕ) → face < 37 → tile < 37 → (tile ≡ face) ⊎ (tile ≡ face → ⊥) →
        get_or (set (face_counts tiles) tile (get_or (face_counts tiles) tile 0 + 1)) face 0 ≡ get_or (face_counts (tiles ++ tile ∷ [])) face 0
    one tiles tile face small below (inl same) =
        grind (
          arith,
          same,
          length-face_counts tiles,
          get_or-face_counts tiles face small,
          get_or-face_counts (tiles ++ tile ∷ []) face small,
          number_in-push tiles tile face,
          eq-eqb tile face same,
          get_or-set_same (face_counts tiles) tile (get_or (face_counts tiles) tile 0 + 1) 0,
        )
    one tiles tile face small below (inr other) =
        grind (
          arith,
          get_or-face_counts tiles face small,
          get_or-face_counts (tiles ++ tile ∷ []) face small,
          number_in-push tiles tile face,
          ne_eqb tile face other,
          get_or-set_other (face_counts tiles) tile face (get_or (face_counts tiles) tile 0 + 1) 0,
        )

-- No tiles, and no counts.
pub face_counts-none : replicate 37 0 ≡ face_counts []
unfolding face_counts
face_counts-none = refl

-- Of no face there are more than there are tiles.
pub face_counts-fits : (counts tiles : List ℕ) (i t place : ℕ) → i < length tiles → length tiles ≤ 255 → place ≡ t → t < 37 → counts ≡ face_counts (take i tiles) →
    get_or counts place 0 + 1 < 256
face_counts-fits counts tiles i t place inside most is below before =
    rw (before, is) (fits _ _ _ i (length tiles) (get_or-face_counts (take i tiles) t below) (count_by-le-length (λ tile. eqb tile t) (take i tiles))
    (length-take-le i tiles (omega arith)) inside most)
  where
    fits : (a b n i m : ℕ) → a ≡ b → b ≤ n → n ≡ i → i < m → m ≤ 255 → a + 1 < 256
    fits a b n i m e f g h k = omega arith

-- The next tile is one of its face more.
pub face_counts-next : (counts tiles : List ℕ) (i t place : ℕ) → i < length tiles → t ≡ get_or tiles i t → place ≡ t → t < 37 → counts ≡ face_counts (take i tiles) →
    set counts place (get_or counts place 0 + 1) ≡ face_counts (take (i + 1) tiles)
face_counts-next counts tiles i t place inside at is below before =
    rw (before, is, take_more tiles i t inside, ← at) (face_counts-push (take i tiles) t below)
