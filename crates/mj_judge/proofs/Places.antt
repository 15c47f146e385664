-- Going through the places of the tile order.
use Rattle.std.proofs.Common.{◌≡◌, ℕ, ◌+◌, ◌<◌, ◌≤◌, Bool, true, false, cond, ◌&&◌, List, [], ◌∷◌, ◌++◌, length, take, drop, get_or, Some, sym, ap, ◌∙◌, arith, append-nil}
use Rattle.std.specs.Prelude.{slice_index, filter}
use Rattle.std.specs.List.{list_all}
use Rattle.std.proofs.lemmas.List.{take_more, drop_more, drop_all, take_all}
use Rattle.std.proofs.lemmas.List.Elements.{filter-append}
use Rattle.mj_tiles.specs.Faces.{tile_order}
use Rattle.mj_tiles.proofs.Faces.{all_faces}
use Rattle.mj_deeds.proofs.Newest.{last_added}
use Rattle.mj_rules.specs.Default.{last_face}

all_places : (i : ℕ) → i < 37 → i < length tile_order
all_places i h = omega (arith, all_faces)

-- All from a place on pass a test where the tile at the place does and all after it do.
all_step : (p : ℕ → Bool) (i tile : ℕ) (b : Bool) → i < 37 → tile ≡ slice_index tile_order i → p tile ≡ b →
    list_all p (drop i tile_order) ≡ (b && list_all p (drop (i + 1) tile_order))
all_step p i tile b h is test =
    ap (list_all p) (drop_more tile_order i 0 (all_places i h))
    ∙ ap (λ c. c && list_all p (drop (i + 1) tile_order)) (ap p (sym is) ∙ test)

pub all_pass : (p : ℕ → Bool) (i tile : ℕ) → i < 37 → tile ≡ slice_index tile_order i → p tile ≡ true →
    list_all p (drop (i + 1) tile_order) ≡ list_all p (drop i tile_order)
all_pass p i tile h is test = sym (all_step p i tile true h is test)

pub one_fails : (p : ℕ → Bool) (i tile : ℕ) → i < 37 → tile ≡ slice_index tile_order i → p tile ≡ false → list_all p (drop i tile_order) ≡ false
one_fails p i tile h is test = all_step p i tile false h is test

-- The last that passes, one place further.
filter_step : (p : ℕ → Bool) (i tile : ℕ) (b : Bool) → i < 37 → tile ≡ slice_index tile_order i → p tile ≡ b →
    filter p (take (i + 1) tile_order) ≡ filter p (take i tile_order) ++ cond b (tile ∷ []) []
filter_step p i tile b h is test =
    ap (filter p) (take_more tile_order i 0 (all_places i h))
    ∙ filter-append p (take i tile_order) (get_or tile_order i 0 ∷ [])
    ∙ ap (λ (t : ℕ). filter p (take i tile_order) ++ filter p (t ∷ [])) (sym is)
    ∙ ap (λ (c : Bool). filter p (take i tile_order) ++ cond c (tile ∷ []) []) test

pub last_passes : (p : ℕ → Bool) (i tile : ℕ) → i < 37 → tile ≡ slice_index tile_order i → p tile ≡ true →
    Some tile ≡ last_face (filter p (take (i + 1) tile_order))
last_passes p i tile h is test = sym (ap last_face (filter_step p i tile true h is test) ∙ last_added (filter p (take i tile_order)) tile)

pub last_stays : (p : ℕ → Bool) (i tile : ℕ) → i < 37 → tile ≡ slice_index tile_order i → p tile ≡ false →
    last_face (filter p (take i tile_order)) ≡ last_face (filter p (take (i + 1) tile_order))
last_stays p i tile h is test = sym (ap last_face (filter_step p i tile false h is test ∙ append-nil (filter p (take i tile_order))))

-- After the last place.
past : (i : ℕ) → 37 ≤ i → length tile_order ≤ i
past i h = omega (arith, all_faces)

pub none_left : (p : ℕ → Bool) (i : ℕ) → 37 ≤ i → list_all p (drop i tile_order) ≡ true
none_left p i h = ap (list_all p) (drop_all i tile_order (past i h))

pub all_seen : (p : ℕ → Bool) (i : ℕ) → 37 ≤ i → last_face (filter p (take i tile_order)) ≡ last_face (filter p tile_order)
all_seen p i h = ap (λ (xs : List ℕ). last_face (filter p xs)) (take_all i tile_order (past i h))
