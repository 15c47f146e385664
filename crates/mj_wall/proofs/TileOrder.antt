-- Putting tiles into tile order neither adds nor loses any.
use Rattle.std.proofs.Common.{◌≡◌, ℕ, ◌+◌, ◌-◌, ◌*◌, ◌<◌, ◌≤◌, ◌⊎◌, Bool, true, false, List, [], ◌∷◌, length, arith, inl, inr, refl, sym, ap, ◌∙◌, subst, cond, eqb, ltb}
use Rattle.std.specs.Prelude.{All, flat_map, replicate, count_by}
use Rattle.std.specs.List.{list_all}
use Rattle.std.proofs.lemmas.Bool.{and_parts, cases_eq, cases_lt, ltb-true, ne_eqb, agree_below_at, eqb-true}
use Rattle.std.proofs.lemmas.List.{length-append, length-replicate}
use Rattle.std.proofs.lemmas.List.Sums.{sum_by-cons, sum_by-append}
use Rattle.std.proofs.lemmas.List.Folds.{sum_by-replicate}
use Rattle.std.proofs.lemmas.List.Elements.{All-head, All-tail, All-nil, All-cons}
use Rattle.mj_tiles.specs.Faces.{number_in, less, in_tile_order, tile_order}
use Rattle.mj_tiles.proofs.Faces.{either_way}

-- How many tiles of these faces stand in a list.
abbrev pub total : List ℕ → List ℕ → ℕ
total tiles [] = 0
total tiles (face ∷ faces) = number_in tiles face + total tiles faces

total-none : (faces : List ℕ) → total [] faces ≡ 0
total-none [] = refl
total-none (face ∷ faces) = let rest = total-none faces in omega arith

-- One tile counts where it is of the face.
pub number-cons : (t face : ℕ) (ts : List ℕ) → number_in (t ∷ ts) face ≡ cond (eqb t face) 1 0 + number_in ts face
number-cons t face ts = sum_by-cons (λ x. cond (eqb x face) 1 0) t ts

-- One tile more counts as often as its face is named.
total-cons : (t : ℕ) (ts faces : List ℕ) → total (t ∷ ts) faces ≡ number_in faces t + total ts faces
total-cons t ts [] = refl
total-cons t ts (face ∷ faces) =
    let rest = total-cons t ts faces in
    let here = number-cons t face ts in
    let there = number-cons face t faces in
    let same : ◌≡◌ {A = ℕ} (cond (eqb t face) 1 0) (cond (eqb face t) 1 0) = ap (λ (b : Bool). cond b 1 0) (either_way t face) in
    omega arith

-- Each face of the game stands once in the tile order.
once_in_order : (t : ℕ) → t < 37 → number_in tile_order t ≡ 1
unfolding tile_order
once_in_order t h = eqb-true (number_in tile_order t) 1 (agree_below_at (λ face. eqb (number_in tile_order face) 1) (λ face. true) 37 t refl h)

-- So all tiles are counted.
pub total-all : (tiles : List ℕ) → All (λ t. t < 37) tiles → total tiles tile_order ≡ length tiles
total-all [] h = total-none tile_order
total-all (t ∷ ts) h =
    let once = once_in_order t (All-head (λ x. x < 37) t ts h) in
    let rest = total-all ts (All-tail (λ x. x < 37) t ts h) in
    let parts = total-cons t ts tile_order in
    omega arith

-- The tiles of a list that are put out face by face.
length-by_face : (tiles faces : List ℕ) → length (flat_map (λ face. replicate (number_in tiles face - number_in [] face) face) faces) ≡ total tiles faces
length-by_face tiles [] = refl
length-by_face tiles (face ∷ faces) =
    let rest = length-by_face tiles faces in
    let here = length-replicate (number_in tiles face - 0) face in
    let parts = length-append (replicate (number_in tiles face - 0) face) (flat_map (λ f. replicate (number_in tiles f - number_in [] f) f) faces) in
    omega arith

-- Tiles in tile order are as many as before.
pub length-in_tile_order : (tiles : List ℕ) → All (λ t. t < 37) tiles → length (in_tile_order tiles) ≡ length tiles
unfolding in_tile_order less
length-in_tile_order tiles h = length-by_face tiles tile_order ∙ total-all tiles h

-- How many tiles of these faces pass a test.
abbrev chosen : (ℕ → Bool) → List ℕ → List ℕ → ℕ
chosen p tiles [] = 0
chosen p tiles (face ∷ faces) = cond (p face) (number_in tiles face) 0 + chosen p tiles faces

none_chosen : (b : Bool) → ◌≡◌ {A = ℕ} (cond b 0 0) 0
none_chosen true = refl
none_chosen false = refl

chosen-none : (p : ℕ → Bool) (faces : List ℕ) → chosen p [] faces ≡ 0
chosen-none p [] = refl
chosen-none p (face ∷ faces) = let rest = chosen-none p faces in let here = none_chosen (p face) in omega arith

-- One tile more counts as often as its face is named, where it passes.
chosen-cons : (p : ℕ → Bool) (t : ℕ) (ts faces : List ℕ) → chosen p (t ∷ ts) faces ≡ cond (p t) (number_in faces t) 0 + chosen p ts faces
chosen-cons p t ts [] = sym (pad (p t))
  where
    pad : (b : Bool) → cond b 0 0 + 0 ≡ 0
    pad true = refl
    pad false = refl
chosen-cons p t ts (face ∷ faces) =
    ap (λ n. cond (p face) n 0 + chosen p (t ∷ ts) faces) (number-cons t face ts)
    ∙ ap (λ n. cond (p face) (cond (eqb t face) 1 0 + number_in ts face) 0 + n) (chosen-cons p t ts faces)
    ∙ swapped (p face) (p t) (cond (eqb t face) 1 0) (cond (eqb face t) 1 0) (number_in ts face) (number_in faces t) (chosen p ts faces) (ap (λ (b : Bool). cond b 1 0) (either_way t face)) alike
    ∙ ap (λ n. cond (p t) n 0 + (cond (p face) (number_in ts face) 0 + chosen p ts faces)) (sym (number-cons face t faces))
  where
    alike : (◌≡◌ {A = ℕ} (cond (eqb t face) 1 0) 0) ⊎ (p face ≡ p t)
    alike = elim (cases_eq t face) [
      | inl e ↦ inr (ap p (sym e))
      | inr n ↦ inl (rw (ne_eqb t face n) refl)
    ]

    swapped : (a b : Bool) (x y n m rest : ℕ) → x ≡ y → (x ≡ 0) ⊎ (a ≡ b) → cond a (x + n) 0 + (cond b m 0 + rest) ≡ cond b (y + m) 0 + (cond a n 0 + rest)
    swapped true true x y n m rest e h = omega arith
    swapped false false x y n m rest e h = refl
    swapped true false x y n m rest e (inl z) = omega arith
    swapped true false x y n m rest e (inr h) = cc
    swapped false true x y n m rest e (inl z) = omega arith
    swapped false true x y n m rest e (inr h) = cc

chosen-all : (p : ℕ → Bool) (tiles : List ℕ) → All (λ t. t < 37) tiles → chosen p tiles tile_order ≡ count_by p tiles
chosen-all p [] h = chosen-none p tile_order
chosen-all p (t ∷ ts) h =
    chosen-cons p t ts tile_order
    ∙ ap (λ n. cond (p t) n 0 + chosen p ts tile_order) (once_in_order t (All-head (λ x. x < 37) t ts h))
    ∙ ap (λ n. cond (p t) 1 0 + n) (chosen-all p ts (All-tail (λ x. x < 37) t ts h))
    ∙ sym (sum_by-cons (λ x. cond (p x) 1 0) t ts)

chosen-replicate : (p : ℕ → Bool) (n face : ℕ) → count_by p (replicate n face) ≡ cond (p face) n 0
chosen-replicate p n face = sum_by-replicate (λ x. cond (p x) 1 0) n face ∙ times (p face) n
  where
    times : (b : Bool) (n : ℕ) → n * cond b 1 0 ≡ cond b n 0
    times true n = omega arith
    times false n = omega arith

count_by-by_face : (p : ℕ → Bool) (tiles faces : List ℕ) → count_by p (flat_map (λ face. replicate (number_in tiles face - number_in [] face) face) faces) ≡ chosen p tiles faces
count_by-by_face p tiles [] = refl
count_by-by_face p tiles (face ∷ faces) =
    let rest = count_by-by_face p tiles faces in
    let here = chosen-replicate p (number_in tiles face - 0) face in
    let parts = sum_by-append (λ x. cond (p x) 1 0) (replicate (number_in tiles face - 0) face) (flat_map (λ f. replicate (number_in tiles f - number_in [] f) f) faces) in
    parts ∙ ap (λ n. n + count_by p (flat_map (λ f. replicate (number_in tiles f - number_in [] f) f) faces)) here ∙ ap (λ n. cond (p face) (number_in tiles face - 0) 0 + n) rest
    ∙ ap (λ n. cond (p face) n 0 + chosen p tiles faces) (none_less (number_in tiles face))
  where
    none_less : (n : ℕ) → n - 0 ≡ n
    none_less n = omega arith

-- Of tiles in tile order as many pass a test as before.
pub count_by-in_tile_order : (p : ℕ → Bool) (tiles : List ℕ) → All (λ t. t < 37) tiles → count_by p (in_tile_order tiles) ≡ count_by p tiles
unfolding in_tile_order less
count_by-in_tile_order p tiles h = count_by-by_face p tiles tile_order ∙ chosen-all p tiles h

-- no face stands in tile order more than once

none_above : (faces : List ℕ) (t : ℕ) → list_all (λ face. ltb face 37) faces ≡ true → 37 ≤ t → number_in faces t ≡ 0
none_above [] t h above = refl
none_above (face ∷ faces) t h above =
    let parts = and_parts (ltb face 37) (list_all (λ f. ltb f 37) faces) h in
    let below : face < 37 = ltb-true face 37 parts.0 in
    here (eqb face t) _ _ (ne_eqb face t (λ e. omega (arith, below, above, e))) (number-cons face t faces) (none_above faces t parts.1 above)
  where
    here : (b : Bool) (n m : ℕ) → b ≡ false → m ≡ cond b 1 0 + n → n ≡ 0 → m ≡ 0
    here true n m e h k = cc
    here false n m e h k = omega (arith, h, k)

at_most_once : (t : ℕ) → (t < 37) ⊎ (37 ≤ t) → number_in tile_order t ≤ 1
unfolding tile_order
at_most_once t (inl below) = omega (arith, once_in_order t below)
at_most_once t (inr above) = omega (arith, none_above tile_order t refl above)

chosen-le : (p : ℕ → Bool) (tiles : List ℕ) → chosen p tiles tile_order ≤ count_by p tiles
chosen-le p [] = omega (arith, chosen-none p tile_order)
chosen-le p (t ∷ ts) =
    more (p t) _ _ _ _ _ (chosen-cons p t ts tile_order) (at_most_once t (cases_lt t 37)) (chosen-le p ts) (sum_by-cons (λ x. cond (p x) 1 0) t ts)
  where
    more : (b : Bool) (a n c d e : ℕ) → a ≡ cond b n 0 + c → n ≤ 1 → c ≤ d → e ≡ cond b 1 0 + d → a ≤ e
    more true a n c d e h k l m = omega (arith, h, k, l, m)
    more false a n c d e h k l m = omega (arith, h, k, l, m)

count_by-left : (p : ℕ → Bool) (tiles others faces : List ℕ) →
    count_by p (flat_map (λ face. replicate (number_in tiles face - number_in others face) face) faces) ≤ chosen p tiles faces
count_by-left p tiles others [] = omega arith
count_by-left p tiles others (face ∷ faces) =
    both (p face) _ _ _ _ (number_in tiles face) (number_in others face)
    (sum_by-append (λ x. cond (p x) 1 0) (replicate (number_in tiles face - number_in others face) face) (flat_map (λ f. replicate (number_in tiles f - number_in others f) f) faces))
    (chosen-replicate p (number_in tiles face - number_in others face) face) (count_by-left p tiles others faces)
  where
    both : (b : Bool) (a c d e n m : ℕ) → a ≡ c + d → c ≡ cond b (n - m) 0 → d ≤ e → a ≤ cond b n 0 + e
    both true a c d e n m h k l = omega (arith, h, k, l)
    both false a c d e n m h k l = omega (arith, h, k, l)

-- Of tiles less others no more pass a test than of the tiles.
pub count_by-less : (p : ℕ → Bool) (tiles others : List ℕ) → count_by p (less tiles others) ≤ count_by p tiles
unfolding less
count_by-less p tiles others = chain _ _ _ (count_by-left p tiles others tile_order) (chosen-le p tiles)
  where
    chain : (a b c : ℕ) → a ≤ b → b ≤ c → a ≤ c
    chain a b c h k = omega (arith, h, k)

-- A test that each face of a list passes is passed by a face that stands in it.
pub passes_each : (p : ℕ → Bool) (faces : List ℕ) (face : ℕ) → list_all p faces ≡ true → 0 < number_in faces face → p face ≡ true
passes_each p [] face h some = absurd (omega arith)
passes_each p (f ∷ fs) face h some =
    let parts = and_parts (p f) (list_all p fs) h in
    elim (cases_eq f face) [
      | inl e ↦ subst (λ x. p x ≡ true) e parts.0
      | inr n ↦ passes_each p fs face parts.1 (behind (eqb f face) _ _ (ne_eqb f face n) (number-cons f face fs) some)
    ]
  where
    behind : (b : Bool) (n m : ℕ) → b ≡ false → m ≡ cond b 1 0 + n → 0 < m → 0 < n
    behind true n m e h k = cc
    behind false n m e h k = omega (arith, h, k)

-- What each face of the game passes.
pub passes_face : (p : ℕ → Bool) (face : ℕ) → list_all p tile_order ≡ true → face < 37 → p face ≡ true
passes_face p face h below = passes_each p tile_order face h (omega (arith, once_in_order face below))

-- The faces of the game count no tile twice.
total-le-length : (tiles : List ℕ) → total tiles tile_order ≤ length tiles
total-le-length [] = omega (arith, total-none tile_order)
total-le-length (t ∷ ts) = omega (arith, total-cons t ts tile_order, at_most_once t (cases_lt t 37), total-le-length ts)

-- Where they count all tiles, each tile is a face of the game.
pub known-total : (tiles : List ℕ) → total tiles tile_order ≡ length tiles → All (λ t. t < 37) tiles
unfolding tile_order
known-total [] h = All-nil (λ t. t < 37)
known-total (t ∷ ts) h =
    let parts = total-cons t ts tile_order in
    let once = at_most_once t (cases_lt t 37) in
    let most = total-le-length ts in
    All-cons (λ x. x < 37) t ts (below t (cases_lt t 37) (omega arith)) (known-total ts (omega arith))
  where
    below : (t : ℕ) → (t < 37) ⊎ (37 ≤ t) → 1 ≤ number_in tile_order t → t < 37
    below t (inl small) h = small
    below t (inr above) h = absurd (omega (arith, h, none_above tile_order t refl above))
