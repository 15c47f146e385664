-- The room beside tiles, one tile after another.
use Rattle.std.proofs.Common.{ℕ, ◌≡◌, ◌<◌, ◌≤◌, ◌-◌, ◌++◌, ◌∷◌, [], ◌⊎◌, inl, inr, Bool, true, false, List, length, get_or, set, sym, ◌∙◌, ap, subst, arith, eqb, length-set, replicate, refl}
use Rattle.std.proofs.lemmas.Bool.{cases_lt}
use Rattle.std.proofs.lemmas.Bool.Decides.{Decides-eqb, not_from_Decides}
use Rattle.std.proofs.lemmas.List.{get_or_past}
use Rattle.std.proofs.lemmas.List.FromFn.{length-map-range_with_len, get_or-map-range_with_len}
use Rattle.std.proofs.lemmas.Grind.{common_steps, same_number_lists}
use Rattle.mj_tiles.specs.Faces.{kind_of}
use Rattle.mj_tiles.specs.Counts.{all_kinds, number_of, room_beside, NoFifth}
use Rattle.mj_tiles.proofs.CountSteps.{number_of-push}

pub length-room_beside : (tiles : List ℕ) → length (room_beside tiles) ≡ 34
unfolding room_beside all_kinds
length-room_beside tiles = length-map-range_with_len (λ kind. 4 - number_of tiles kind) 0 34

get_or-room_beside : (tiles : List ℕ) (kind : ℕ) → kind < 34 → get_or (room_beside tiles) kind 0 ≡ 4 - number_of tiles kind
unfolding room_beside all_kinds
get_or-room_beside tiles kind within = get_or-map-range_with_len (λ kind. 4 - number_of tiles kind) 0 34 kind kind 0 within (omega arith)

-- Besides nothing there is room for four of each kind.
pub room_none : replicate 34 4 ≡ room_beside []
unfolding room_beside all_kinds
room_none = refl

-- There is never room for five.
pub room_within : (tiles : List ℕ) → NoFifth (room_beside tiles)
room_within tiles kind = by_kind (cases_lt kind 34)
  where
    less : (n m : ℕ) → n ≡ 4 - m → n ≤ 4
    less n m e = omega (arith, e)

    past : (n : ℕ) → n ≡ 0 → n ≤ 4
    past n e = omega (arith, e)

    by_kind : (kind < 34) ⊎ (34 ≤ kind) → get_or (room_beside tiles) kind 0 ≤ 4
    by_kind (inl small) = less _ _ (get_or-room_beside tiles kind small)
    by_kind (inr large) = past _ (get_or_past (room_beside tiles) kind 0 (subst (λ (n : ℕ). n ≤ kind) (sym (length-room_beside tiles)) large))

-- The room besides one tile more.
pub room_push : (tiles : List ℕ) (tile : ℕ) → kind_of tile < 34 →
    set (room_beside tiles) (kind_of tile) (get_or (room_beside tiles) (kind_of tile) 0 - 1) ≡ room_beside (tiles ++ tile ∷ [])
room_push tiles tile within =
    let before = room_beside tiles in
    let place = kind_of tile in
    same_number_lists (set before place (get_or before place 0 - 1)) (room_beside (tiles ++ tile ∷ []))
    (length-set before place (get_or before place 0 - 1) ∙ length-room_beside tiles ∙ sym (length-room_beside (tiles ++ tile ∷ [])))
    (λ k inside.
    let small : k < 34 = omega (arith, length-set before place (get_or before place 0 - 1), length-room_beside tiles) in
    at tiles tile k (eqb (kind_of tile) k) refl small within)
  where
    at : (tiles : List ℕ) (tile k : ℕ) (b : Bool) → eqb (kind_of tile) k ≡ b → k < 34 → kind_of tile < 34 →
        get_or (set (room_beside tiles) (kind_of tile) (get_or (room_beside tiles) (kind_of tile) 0 - 1)) k 0
        ≡ get_or (room_beside (tiles ++ tile ∷ [])) k 0
    at tiles tile k true is small within =
        grind (
          arith,
          common_steps,
          get_or-room_beside (tiles ++ tile ∷ []) k small,
          get_or-room_beside tiles k small,
          number_of-push tiles tile k,
          length-room_beside tiles,
          (Decides-eqb (kind_of tile) k).0 is,
        )
    at tiles tile k false is small within =
        grind (
          arith,
          common_steps,
          get_or-room_beside (tiles ++ tile ∷ []) k small,
          get_or-room_beside tiles k small,
          number_of-push tiles tile k,
          length-room_beside tiles,
          not_from_Decides _ (Decides-eqb (kind_of tile) k) is,
        )

pub room_take : (room tiles : List ℕ) (tile place left : ℕ) → room ≡ room_beside tiles → place ≡ kind_of tile → kind_of tile < 34 → left ≡ get_or room place 0 - 1 →
    set room place left ≡ room_beside (tiles ++ tile ∷ [])
room_take room tiles tile place left is at within less =
    ap (set room place) less
    ∙ (λ i. set (is i) (at i) (get_or (is i) (at i) 0 - 1))
    ∙ room_push tiles tile within
