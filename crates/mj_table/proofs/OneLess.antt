-- Tiles and one less.
use Rattle.std.proofs.Common.{◌≡◌, ℕ, ◌+◌, ◌-◌, ◌*◌, ◌<◌, ◌⊎◌, inl, inr, Bool, true, false, cond, eqb, ltb, List, [], ◌∷◌, ◌++◌, get_or}
use Rattle.std.proofs.Common.{set, length, replicate, refl, sym, ap, ◌∙◌, arith, get_or-set_same, get_or-set_other, length-set}
use Rattle.std.specs.Prelude.{All, flat_map, count_by, map}
use Rattle.std.proofs.lemmas.Bool.{cases_eq, eq-eqb, ne_eqb, ltb-true}
use Rattle.std.proofs.lemmas.Grind.{same_number_lists}
use Rattle.std.proofs.lemmas.List.Elements.{All-nil, All-cons}
use Rattle.std.proofs.lemmas.List.Folds.{sum_by-replicate}
use Rattle.std.proofs.lemmas.List.Sums.{sum_by-append, sum_by-cons}
use Rattle.mj_tiles.specs.Faces.{kind_of, number_in, less, in_tile_order, tile_order}
use Rattle.mj_tiles.specs.Counts.{all_kinds, number_of, kind_counts}
use Rattle.mj_tiles.proofs.CountSteps.{length-kind_counts, get_or-kind_counts, number_in-push}
use Rattle.mj_wall.proofs.TileOrder.{number-cons, passes_each, passes_face, count_by-in_tile_order}

-- A list without its first tile of a face.
pub without : List ℕ → ℕ → List ℕ
without [] tile = []
without (t ∷ ts) tile = cond (eqb t tile) ts (t ∷ without ts tile)

-- So many fewer pass a test.
pub count_without : (p : ℕ → Bool) (ts : List ℕ) (tile : ℕ) → 0 < number_in ts tile → count_by p ts ≡ count_by p (without ts tile) + cond (p tile) 1 0
unfolding without
count_without p [] tile h = absurd (omega arith)
count_without p (t ∷ ts) tile h = elim (cases_eq t tile) [
  | inl e ↦
      here (count_by p (t ∷ ts)) (count_by p ts) (count_by p (cond (eqb t tile) ts (t ∷ without ts tile))) (cond (p t) 1 0) (cond (p tile) 1 0) (sum_by-cons (λ x. cond (p x) 1 0) t ts)
      (ap (λ x. cond (p x) 1 0) e) (ap (λ b. count_by p (cond b ts (t ∷ without ts tile))) (eq-eqb t tile e))
  | inr ne ↦
      there (count_by p (t ∷ ts)) (count_by p ts) (count_by p (cond (eqb t tile) ts (t ∷ without ts tile))) (count_by p (without ts tile)) (cond (p t) 1 0) (cond (p tile) 1 0)
      (sum_by-cons (λ x. cond (p x) 1 0) t ts)
      (ap (λ b. count_by p (cond b ts (t ∷ without ts tile))) (ne_eqb t tile ne) ∙ sum_by-cons (λ x. cond (p x) 1 0) t (without ts tile))
      (count_without p ts tile (behind (eqb t tile) (number_in ts tile) (number_in (t ∷ ts) tile) (ne_eqb t tile ne) (sum_by-cons (λ x. cond (eqb x tile) 1 0) t ts) h))
]
  where
    here : (n m k x y : ℕ) → n ≡ x + m → x ≡ y → k ≡ m → n ≡ k + y
    here n m k x y e f g = omega (arith, e, f, g)

    there : (n m k l x y : ℕ) → n ≡ x + m → k ≡ x + l → m ≡ l + y → n ≡ k + y
    there n m k l x y e f g = omega (arith, e, f, g)

    behind : (b : Bool) (n m : ℕ) → b ≡ false → m ≡ cond b 1 0 + n → 0 < m → 0 < n
    behind true n m e h k = cc
    behind false n m e h k = omega (arith, h, k)

-- Where a tile more is put down, the others are left.
pub less_without : (got gone : List ℕ) (tile : ℕ) → 0 < number_in got tile → less got (gone ++ tile ∷ []) ≡ less (without got tile) gone
unfolding less
less_without got gone tile h = λ i. flat_map (λ (face : ℕ). replicate (same face i) face) tile_order
  where
    diff : (a b c d x : ℕ) → a ≡ b + x → c ≡ d + x → a - c ≡ b - d
    diff a b c d x e f = omega (arith, e, f)

    same : (face : ℕ) → number_in got face - number_in (gone ++ tile ∷ []) face ≡ number_in (without got tile) face - number_in gone face
    same face = diff _ _ _ _ (cond (eqb tile face) 1 0) (count_without (λ t. eqb t face) got tile h) (number_in-push gone tile face)

-- tiles in tile order

-- Tiles that are put out face by face: none of a face of which none are, some of one of which some are.
put_out : (ℕ → ℕ) → List ℕ → List ℕ
put_out n faces = flat_map (λ face. replicate (n face) face) faces

number_replicate : (n x face : ℕ) → number_in (replicate n x) face ≡ cond (eqb x face) n 0
number_replicate n x face = sum_by-replicate (λ t. cond (eqb t face) 1 0) n x ∙ times (eqb x face)
  where
    times : (b : Bool) → n * cond b 1 0 ≡ cond b n 0
    times true = omega arith
    times false = omega arith

put_out-cons : (n : ℕ → ℕ) (x : ℕ) (xs : List ℕ) (face : ℕ) → number_in (put_out n (x ∷ xs)) face ≡ cond (eqb x face) (n x) 0 + number_in (put_out n xs) face
unfolding put_out
put_out-cons n x xs face =
    sum_by-append (λ t. cond (eqb t face) 1 0) (replicate (n x) x) (flat_map (λ f. replicate (n f) f) xs)
    ∙ ap (λ m. m + number_in (flat_map (λ f. replicate (n f) f) xs) face) (number_replicate (n x) x face)

none_put : (n : ℕ → ℕ) (face : ℕ) (xs : List ℕ) → n face ≡ 0 → number_in (put_out n xs) face ≡ 0
unfolding put_out
none_put n face [] h = refl
none_put n face (x ∷ xs) h = sum _ _ _ (put_out-cons n x xs face) (here (cases_eq x face)) (none_put n face xs h)
  where
    here : (x ≡ face) ⊎ (x ≡ face → ⊥) → cond (eqb x face) (n x) 0 ≡ 0
    here (inl e) = ap (λ b. cond b (n x) 0) (eq-eqb x face e) ∙ ap n e ∙ h
    here (inr ne) = ap (λ b. cond b (n x) 0) (ne_eqb x face ne)

    sum : (a b c : ℕ) → a ≡ b + c → b ≡ 0 → c ≡ 0 → a ≡ 0
    sum a b c e f g = omega (arith, e, f, g)

some_put : (n : ℕ → ℕ) (face : ℕ) (xs : List ℕ) → 0 < n face → 0 < number_in xs face → 0 < number_in (put_out n xs) face
some_put n face [] h k = absurd (omega arith)
some_put n face (x ∷ xs) h k = elim (cases_eq x face) [
  | inl e ↦ first _ _ _ _ (put_out-cons n x xs face) (ap (λ b. cond b (n x) 0) (eq-eqb x face e) ∙ ap n e) h
  | inr ne ↦
      later _ _ _ (put_out-cons n x xs face)
      (some_put n face xs h (behind (eqb x face) (number_in xs face) (number_in (x ∷ xs) face) (ne_eqb x face ne) (number-cons x face xs) k))
]
  where
    first : (a b c d : ℕ) → a ≡ b + c → b ≡ d → 0 < d → 0 < a
    first a b c d e f g = omega (arith, e, f, g)

    later : (a b c : ℕ) → a ≡ b + c → 0 < c → 0 < a
    later a b c e f = omega (arith, e, f)

    behind : (b : Bool) (n m : ℕ) → b ≡ false → m ≡ cond b 1 0 + n → 0 < m → 0 < n
    behind true n m e h k = cc
    behind false n m e h k = omega (arith, h, k)

put_among : (n : ℕ → ℕ) (face : ℕ) (xs : List ℕ) → 0 < number_in (put_out n xs) face → 0 < number_in xs face
unfolding put_out
put_among n face [] h = h
put_among n face (x ∷ xs) h = elim (cases_eq x face) [
  | inl e ↦ first _ _ _ (number-cons x face xs) (ap (λ b. cond b 1 0) (eq-eqb x face e))
  | inr ne ↦
      later _ _ _ (number-cons x face xs)
      (put_among n face xs (behind _ _ _ (put_out-cons n x xs face) (ap (λ b. cond b (n x) 0) (ne_eqb x face ne)) h))
]
  where
    first : (a b c : ℕ) → a ≡ b + c → b ≡ 1 → 0 < a
    first a b c e f = omega (arith, e, f)

    later : (a b c : ℕ) → a ≡ b + c → 0 < c → 0 < a
    later a b c e f = omega (arith, e, f)

    behind : (a b c : ℕ) → a ≡ b + c → b ≡ 0 → 0 < a → 0 < c
    behind a b c e f g = omega (arith, e, f, g)

in_order : (face : ℕ) → face < 37 → 0 < number_in tile_order face
unfolding tile_order
in_order face small = ltb-true 0 (number_in tile_order face) (passes_face (λ f. ltb 0 (number_in tile_order f)) face refl small)

-- What is left of tiles: what was there more often, and only faces of the game.
pub none_left : (got gone : List ℕ) (face : ℕ) → number_in got face - number_in gone face ≡ 0 → number_in (less got gone) face ≡ 0
unfolding less put_out
none_left got gone face h = none_put (λ f. number_in got f - number_in gone f) face tile_order h

pub some_left : (got gone : List ℕ) (face : ℕ) → 0 < number_in got face - number_in gone face → face < 37 → 0 < number_in (less got gone) face
unfolding less put_out
some_left got gone face h small = some_put (λ f. number_in got f - number_in gone f) face tile_order h (in_order face small)

pub left_small : (got gone : List ℕ) (face : ℕ) → 0 < number_in (less got gone) face → face < 37
unfolding less put_out tile_order
left_small got gone face h =
    ltb-true face 37 (passes_each (λ f. ltb f 37) tile_order face refl (put_among (λ f. number_in got f - number_in gone f) face tile_order h))

all_small : (tiles : List ℕ) → ((face : ℕ) → 0 < number_in tiles face → face < 37) → All (λ t. t < 37) tiles
all_small [] each = All-nil (λ t. t < 37)
all_small (t ∷ ts) each = All-cons (λ x. x < 37) t ts (each t (first _ _ _ (number-cons t t ts) (ap (λ b. cond b 1 0) (eq-eqb t t refl))))
    (all_small ts (λ face h. each face (later _ _ _ (number-cons t face ts) h)))
  where
    first : (a b c : ℕ) → a ≡ b + c → b ≡ 1 → 0 < a
    first a b c e f = omega (arith, e, f)

    later : (a b c : ℕ) → a ≡ b + c → 0 < c → 0 < a
    later a b c e f = omega (arith, e, f)

-- the counts of tiles less one

-- Of tiles in tile order less one of them so many are left.
number_less : (tiles : List ℕ) (tile kind : ℕ) → ((face : ℕ) → 0 < number_in tiles face → face < 37) → 0 < number_in tiles tile →
    number_of tiles kind ≡ number_of (less tiles (tile ∷ [])) kind + cond (eqb (kind_of tile) kind) 1 0
unfolding in_tile_order
number_less tiles tile kind small some =
    count_without (λ t. eqb (kind_of t) kind) tiles tile some
    ∙ ap (λ n. n + cond (eqb (kind_of tile) kind) 1 0)
    (sym (ap (λ (xs : List ℕ). number_of xs kind) (less_without tiles [] tile some)
    ∙ count_by-in_tile_order (λ t. eqb (kind_of t) kind) (without tiles tile) (all_small (without tiles tile) (λ face h. small face (more face h)))))
  where
    most : (a b c : ℕ) → a ≡ b + c → 0 < b → 0 < a
    most a b c e h = omega (arith, e, h)

    more : (face : ℕ) → 0 < number_in (without tiles tile) face → 0 < number_in tiles face
    more face h = most _ _ _ (count_without (λ t. eqb t face) tiles tile some) h

-- The counts of them have one fewer of its kind.
pub counts_less : (tiles : List ℕ) (tile : ℕ) → ((face : ℕ) → 0 < number_in tiles face → face < 37) → 0 < number_in tiles tile → kind_of tile < 34 →
    set (kind_counts tiles) (kind_of tile) (get_or (kind_counts tiles) (kind_of tile) 0 - 1) ≡ kind_counts (less tiles (tile ∷ []))
counts_less tiles tile small some low =
    same_number_lists (set (kind_counts tiles) (kind_of tile) (get_or (kind_counts tiles) (kind_of tile) 0 - 1)) (kind_counts (less tiles (tile ∷ [])))
    (length-set (kind_counts tiles) (kind_of tile) _ ∙ length-kind_counts tiles ∙ sym (length-kind_counts (less tiles (tile ∷ []))))
    (λ k inside.
    let within : k < 34 = omega (arith, inside, length-set (kind_counts tiles) (kind_of tile) (get_or (kind_counts tiles) (kind_of tile) 0 - 1), length-kind_counts tiles) in
    at k within (cases_eq k (kind_of tile)) ∙ sym (get_or-kind_counts (less tiles (tile ∷ [])) k within))
  where
    there : kind_of tile < length (kind_counts tiles)
    there = omega (arith, low, length-kind_counts tiles)

    one : (a b c x : ℕ) → a ≡ b → b ≡ c + x → x ≡ 1 → a - 1 ≡ c
    one a b c x e f g = omega (arith, e, f, g)

    none : (a b c x : ℕ) → a ≡ b → b ≡ c + x → x ≡ 0 → a ≡ c
    none a b c x e f g = omega (arith, e, f, g)

    at : (k : ℕ) → k < 34 → (k ≡ kind_of tile) ⊎ (k ≡ kind_of tile → ⊥) →
        get_or (set (kind_counts tiles) (kind_of tile) (get_or (kind_counts tiles) (kind_of tile) 0 - 1)) k 0 ≡ number_of (less tiles (tile ∷ [])) k
    at k within (inl same) =
        ap (λ j. get_or (set (kind_counts tiles) (kind_of tile) (get_or (kind_counts tiles) (kind_of tile) 0 - 1)) j 0) same
        ∙ get_or-set_same (kind_counts tiles) (kind_of tile) (get_or (kind_counts tiles) (kind_of tile) 0 - 1) 0 there
        ∙ one (get_or (kind_counts tiles) (kind_of tile) 0) (number_of tiles k) (number_of (less tiles (tile ∷ [])) k) (cond (eqb (kind_of tile) k) 1 0)
        (get_or-kind_counts tiles (kind_of tile) low ∙ ap (number_of tiles) (sym same)) (number_less tiles tile k small some) (ap (λ b. cond b 1 0) (eq-eqb (kind_of tile) k (sym same)))
    at k within (inr differ) =
        get_or-set_other (kind_counts tiles) (kind_of tile) k (get_or (kind_counts tiles) (kind_of tile) 0 - 1) 0 differ
        ∙ none (get_or (kind_counts tiles) k 0) (number_of tiles k) (number_of (less tiles (tile ∷ [])) k) (cond (eqb (kind_of tile) k) 1 0)
        (get_or-kind_counts tiles k within) (number_less tiles tile k small some) (ap (λ b. cond b 1 0) (ne_eqb (kind_of tile) k (λ e. differ (sym e))))

-- Where the tile is not among them nothing changes.
pub counts_same : (tiles : List ℕ) (tile : ℕ) → ((face : ℕ) → 0 < number_in tiles face → face < 37) → number_in tiles tile ≡ 0 → kind_counts tiles ≡ kind_counts (less tiles (tile ∷ []))
unfolding less in_tile_order kind_counts
counts_same tiles tile small none =
    ap (λ (count : ℕ → ℕ). map count all_kinds) (λ i kind. sym (count_by-in_tile_order (λ t. eqb (kind_of t) kind) tiles (all_small tiles small)) i)
    ∙ ap (λ (xs : List ℕ). kind_counts xs) (λ i. flat_map (λ (face : ℕ). replicate (same face (cases_eq tile face) i) face) tile_order)
  where
    zero_less : (n x : ℕ) → n ≡ 0 → n - 0 ≡ n - x
    zero_less n x e = omega (arith, e)

    other : (n x : ℕ) → x ≡ 0 → n - 0 ≡ n - x
    other n x e = omega (arith, e)

    same : (face : ℕ) → (tile ≡ face) ⊎ (tile ≡ face → ⊥) → number_in tiles face - number_in [] face ≡ number_in tiles face - number_in (tile ∷ []) face
    same face (inl e) = zero_less (number_in tiles face) _ (ap (number_in tiles) (sym e) ∙ none)
    same face (inr ne) = other (number_in tiles face) _ (number-cons tile face [] ∙ ap (λ b. cond b 1 0 + 0) (ne_eqb tile face ne))
