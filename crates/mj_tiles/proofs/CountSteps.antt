-- Counts by kind, one tile after another.
use Rattle.std.proofs.Common.{ℕ, ◌≡◌, ◌<◌, ◌≤◌, ◌+◌, ◌++◌, ◌∷◌, [], Bool, true, false, cond, List, length, get_or, set, take, drop, refl}
use Rattle.std.proofs.Common.{sym, ◌∙◌, arith, eqb, length-set, get_or-set_same, get_or-set_other, ap, replicate, ◌⊎◌, inl, inr}
use Rattle.std.proofs.lemmas.Bool.{cases_eq, cases_lt, eq-eqb}
use Rattle.std.proofs.lemmas.List.{take-append-drop, take_more, set_past}
use Rattle.std.proofs.lemmas.List.Sums.{sum_by-append, sum_by_push}
use Rattle.std.proofs.lemmas.List.FromFn.{length-map-range_with_len, get_or-map-range_with_len}
use Rattle.std.proofs.lemmas.Bool.Decides.{Decides-eqb, not_from_Decides}
use Rattle.std.proofs.lemmas.Grind.{common_steps, same_number_lists}
use Rattle.mj_lists.proofs.Fronts.{zero_at}
use Rattle.mj_tiles.specs.Faces.{kind_of, number_in}
use Rattle.mj_tiles.specs.Counts.{all_kinds, number_of, kind_counts, NoFifth, IsCounts}

-- There are 34 counts.
pub length-kind_counts : (tiles : List ℕ) → length (kind_counts tiles) ≡ 34
unfolding kind_counts all_kinds
length-kind_counts tiles = length-map-range_with_len (number_of tiles) 0 34

-- The count of a kind is the number of tiles of that kind.
pub get_or-kind_counts : (tiles : List ℕ) (kind : ℕ) → kind < 34 → get_or (kind_counts tiles) kind 0 ≡ number_of tiles kind
unfolding kind_counts all_kinds
get_or-kind_counts tiles kind within = get_or-map-range_with_len (number_of tiles) 0 34 kind kind 0 within (omega arith)

-- A kind stands in two lists as often as in the one and in the other.
pub number_of-append : (xs ys : List ℕ) (kind : ℕ) → number_of (xs ++ ys) kind ≡ number_of xs kind + number_of ys kind
number_of-append xs ys kind = sum_by-append (λ tile. cond (eqb (kind_of tile) kind) 1 0) xs ys

-- One tile more is one more of its kind.
pub number_of-push : (tiles : List ℕ) (tile kind : ℕ) → number_of (tiles ++ tile ∷ []) kind ≡ number_of tiles kind + cond (eqb (kind_of tile) kind) 1 0
number_of-push tiles tile kind = grind (arith, common_steps)

-- And one more of its face.
pub number_in-push : (tiles : List ℕ) (tile face : ℕ) → number_in (tiles ++ tile ∷ []) face ≡ number_in tiles face + cond (eqb tile face) 1 0
number_in-push tiles tile face = sum_by_push (λ other. cond (eqb other face) 1 0) tiles tile

-- The counts after one tile more.
pub kind_counts-push : (tiles : List ℕ) (tile : ℕ) → kind_of tile < 34 →
    set (kind_counts tiles) (kind_of tile) (get_or (kind_counts tiles) (kind_of tile) 0 + 1) ≡ kind_counts (tiles ++ tile ∷ [])
kind_counts-push tiles tile within =
    let before = kind_counts tiles in
    let place = kind_of tile in
    same_number_lists (set before place (get_or before place 0 + 1)) (kind_counts (tiles ++ tile ∷ []))
    (length-set before place (get_or before place 0 + 1) ∙ length-kind_counts tiles ∙ sym (length-kind_counts (tiles ++ tile ∷ [])))
    (λ k inside.
    let small : k < 34 = omega (arith, length-set before place (get_or before place 0 + 1), length-kind_counts tiles) in
    at tiles tile k (eqb (kind_of tile) k) refl small within)
  where
    at : (tiles : List ℕ) (tile k : ℕ) (b : Bool) → eqb (kind_of tile) k ≡ b → k < 34 → kind_of tile < 34 →
        get_or (set (kind_counts tiles) (kind_of tile) (get_or (kind_counts tiles) (kind_of tile) 0 + 1)) k 0
        ≡ get_or (kind_counts (tiles ++ tile ∷ [])) k 0
    at tiles tile k true is small within =
        grind (
          arith,
          common_steps,
          get_or-kind_counts (tiles ++ tile ∷ []) k small,
          get_or-kind_counts tiles k small,
          number_of-push tiles tile k,
          length-kind_counts tiles,
          (Decides-eqb (kind_of tile) k).0 is,
        )
    at tiles tile k false is small within =
        grind (
          arith,
          common_steps,
          get_or-kind_counts (tiles ++ tile ∷ []) k small,
          get_or-kind_counts tiles k small,
          number_of-push tiles tile k,
          length-kind_counts tiles,
          not_from_Decides _ (Decides-eqb (kind_of tile) k) is,
        )

-- A list of tiles has of no kind fewer than its front.
pub number_of-take : (tiles : List ℕ) (n kind : ℕ) → number_of (take n tiles) kind ≤ number_of tiles kind
number_of-take tiles n kind = grind (arith, common_steps, sum_by-append (λ other. cond (eqb (kind_of other) kind) 1 0) (take n tiles) (drop n tiles), take-append-drop n tiles)

-- No tiles, and no counts.
pub counts_none : (replicate 34 0 ≡ kind_counts []) × NoFifth (replicate 34 0)
unfolding kind_counts all_kinds
counts_none = (refl, λ kind. rw zero_at (omega arith))

-- The next tile is the fifth of its kind.
pub counts_over : (numbers tiles : List ℕ) (i tile place : ℕ) → i < length tiles → numbers ≡ kind_counts (take i tiles) →
    tile ≡ get_or tiles i tile → place ≡ kind_of tile → place < 34 → get_or numbers place 0 ≡ 4 → NoFifth (kind_counts tiles) → ⊥
counts_over numbers tiles i tile place inside before item is within four bound =
    let front : take (i + 1) tiles ≡ take i tiles ++ tile ∷ [] = take_more tiles i tile inside ∙ ap (λ x. take i tiles ++ x ∷ []) (sym item) in
    let more : number_of (take i tiles ++ tile ∷ []) place ≤ number_of tiles place = rw (← front) (number_of-take tiles (i + 1) place) in
    let whole : get_or (kind_counts tiles) place 0 ≡ number_of tiles place = get_or-kind_counts tiles place within in
    let here : get_or (kind_counts (take i tiles)) place 0 ≡ number_of (take i tiles) place = get_or-kind_counts (take i tiles) place within in
    let count : get_or (kind_counts (take i tiles)) place 0 ≡ 4 = rw (← before) four in
    let step : number_of (take i tiles ++ tile ∷ []) place ≡ number_of (take i tiles) place + 1 =
    number_of-push (take i tiles) tile place ∙ ap (λ b. number_of (take i tiles) place + cond b 1 0) (eq-eqb (kind_of tile) place (sym is)) in
    fifth (number_of (take i tiles) place) (number_of (take i tiles ++ tile ∷ []) place) (number_of tiles place) (get_or (kind_counts tiles) place 0)
    (sym here ∙ count) step more whole (bound place)
  where
    fifth : (a b c d : ℕ) → a ≡ 4 → b ≡ a + 1 → b ≤ c → d ≡ c → d ≤ 4 → ⊥
    fifth a b c d e f g h k = omega arith

-- The next tile is one of its kind more.
pub counts_step : (numbers tiles : List ℕ) (i tile place : ℕ) → i < length tiles → numbers ≡ kind_counts (take i tiles) → NoFifth numbers →
    tile ≡ get_or tiles i tile → place ≡ kind_of tile → place < 34 → (get_or numbers place 0 ≡ 4 → ⊥) →
    (set numbers place (get_or numbers place 0 + 1) ≡ kind_counts (take (i + 1) tiles)) × NoFifth (set numbers place (get_or numbers place 0 + 1))
counts_step numbers tiles i tile place inside before bound item is within room =
    let front : take (i + 1) tiles ≡ take i tiles ++ tile ∷ [] = take_more tiles i tile inside ∙ ap (λ x. take i tiles ++ x ∷ []) (sym item) in
    let kind_within : kind_of tile < 34 = rw (← is) within in
    let push : set (kind_counts (take i tiles)) place (get_or (kind_counts (take i tiles)) place 0 + 1) ≡ kind_counts (take i tiles ++ tile ∷ []) =
    rw is (kind_counts-push (take i tiles) tile kind_within) in
    let same : set numbers place (get_or numbers place 0 + 1) ≡ set (kind_counts (take i tiles)) place (get_or (kind_counts (take i tiles)) place 0 + 1) =
    ap (λ ns. set ns place (get_or ns place 0 + 1)) before in
    (same ∙ push ∙ ap kind_counts (sym front), λ kind. keeps numbers place kind bound room (cases_eq kind place))
  where
    keeps_here : (numbers : List ℕ) (place kind : ℕ) → NoFifth numbers → (get_or numbers place 0 ≡ 4 → ⊥) → kind ≡ place →
        (place < length numbers) ⊎ (length numbers ≤ place) → get_or (set numbers place (get_or numbers place 0 + 1)) kind 0 ≤ 4
    keeps_here numbers place kind bound room same (inl inside) =
        rw same (rw (get_or-set_same numbers place (get_or numbers place 0 + 1) 0 inside) (omega (arith, bound place, room)))
    keeps_here numbers place kind bound room same (inr past) = rw (set_past numbers place (get_or numbers place 0 + 1) past) (bound kind)

    keeps : (numbers : List ℕ) (place kind : ℕ) → NoFifth numbers → (get_or numbers place 0 ≡ 4 → ⊥) → (kind ≡ place) ⊎ (kind ≡ place → ⊥) →
        get_or (set numbers place (get_or numbers place 0 + 1)) kind 0 ≤ 4
    keeps numbers place kind bound room (inl same) = keeps_here numbers place kind bound room same (cases_lt place (length numbers))
    keeps numbers place kind bound room (inr differ) =
        rw (get_or-set_other numbers place kind (get_or numbers place 0 + 1) 0 differ) (bound kind)

-- Counts of tiles are counts.
pub counts_all : (numbers tiles : List ℕ) → numbers ≡ kind_counts tiles → NoFifth numbers → IsCounts numbers
counts_all numbers tiles is bound = record { size = ap length is ∙ length-kind_counts tiles; within = bound }
