-- The tiles in tile order, and what is left of the swaps.
use Rattle.std.proofs.Common.{◌≡◌, ℕ, zero, suc, ◌+◌, ◌-◌, ◌*◌, ◌<◌, ◌≤◌, ◌/◌, ◌%◌, ◌^◌, ◌==◌, ◌&&◌, ◌||◌, Bool, true, false}
use Rattle.std.proofs.Common.{cond, eqb, List, [], ◌∷◌, ◌++◌, length, drop, slice_index, arith, refl, sym, ap, ◌∙◌}
use Rattle.std.specs.List.{list_all, swap}
use Rattle.std.specs.List.Sorted.{IsPermutation}
use Rattle.std.proofs.lemmas.Bool.{agree_below_at, eqb-true}
use Rattle.std.proofs.lemmas.List.{ext_get_or}
use Rattle.std.proofs.lemmas.List.{length_push, drop_all, drop-append-le}
use Rattle.std.proofs.lemmas.List.Folds.{list_all-append}
use Rattle.std.proofs.lemmas.List.Sorted.{sum_by-IsPermutation}
use Rattle.rand_chacha.specs.ChaCha.{ChaCha, key_of, word_at, of_seed}
use Rattle.mj_tiles.specs.Faces.{number_in, tile_order}
use Rattle.mj_wall.specs.Places.{number_in_wall, is_wall}
use Rattle.mj_wall.specs.Shuffle.{sorted_wall, swapped_from, shuffled_wall, shuffled_walls, shuffled_from, drawn_number}

-- the tiles in tile order

-- The last place of a five is red in a wall with red fives.
abbrev pub red_place : Bool → ℕ → Bool
red_place red place = red && (place == 19 || place == 55 || place == 91)

abbrev tile_at : Bool → ℕ → ℕ
tile_at red place = cond (red_place red place) (34 + place / 4 / 9) (place / 4)

at_place : (red : Bool) (place : ℕ) → place < 136 → tile_at red place ≡ slice_index (sorted_wall red) place
unfolding sorted_wall tile_order
at_place true place low = eqb-true _ _ (agree_below_at (λ n. eqb (tile_at true n) (slice_index (sorted_wall true) n)) (λ n. true) 136 place refl low)
at_place false place low = eqb-true _ _ (agree_below_at (λ n. eqb (tile_at false n) (slice_index (sorted_wall false) n)) (λ n. true) 136 place refl low)

pub red_at : (red is_red : Bool) (place kind tile : ℕ) → place < 136 → is_red ≡ red_place red place → is_red ≡ true → kind ≡ place / 4 → tile ≡ 34 + kind / 9
    → tile ≡ slice_index (sorted_wall red) place
red_at red is_red place kind tile low told so kind_is is =
    is ∙ ap (λ k. 34 + k / 9) kind_is ∙ ap (λ b. cond b (34 + place / 4 / 9) (place / 4)) (sym so ∙ told) ∙ at_place red place low

pub plain_at : (red is_red : Bool) (place kind tile : ℕ) → place < 136 → is_red ≡ red_place red place → is_red ≡ false → kind ≡ place / 4 → tile ≡ kind → tile ≡ slice_index (sorted_wall red) place
plain_at red is_red place kind tile low told so kind_is is =
    is ∙ kind_is ∙ ap (λ b. cond b (34 + place / 4 / 9) (place / 4)) (sym so ∙ told) ∙ at_place red place low

sorted_length : (red : Bool) → length (sorted_wall red) ≡ 136
unfolding sorted_wall tile_order
sorted_length true = refl
sorted_length false = refl

-- So far the places have these tiles.
pub record AreSorted (red : Bool) (tiles : List ℕ) (place : ℕ) : Type 0 where
  pub long : length tiles ≡ 136
  pub same : (i : ℕ) → i < place → slice_index tiles i ≡ slice_index (sorted_wall red) i

pub all_sorted : (red : Bool) (tiles : List ℕ) (place : ℕ) → 136 ≤ place → AreSorted red tiles place → tiles ≡ sorted_wall red
all_sorted red tiles place past are = ext_get_or 0 tiles (sorted_wall red) (are.long ∙ sym (sorted_length red)) (λ i low. are.same i (let long = are.long in omega arith))

-- the swaps

pub sorted_is_wall : (red : Bool) → is_wall red (sorted_wall red) ≡ true
unfolding is_wall sorted_wall tile_order
sorted_is_wall true = refl
sorted_is_wall false = refl

-- As many of each face as a wall has.
pub record HasWall (red : Bool) (tiles : List ℕ) : Type 0 where
  pub long : length tiles ≡ 136
  pub each : (face : ℕ) → number_in tiles face ≡ number_in (sorted_wall red) face

pub sorted_has : (red : Bool) (tiles : List ℕ) → tiles ≡ sorted_wall red → HasWall red tiles
sorted_has red tiles is = record {
  long = ap length is ∙ sorted_length red;
  each = λ face. ap (λ (ts : List ℕ). number_in ts face) is;
}

pub swap_has : (red : Bool) (tiles others : List ℕ) → HasWall red tiles → IsPermutation tiles others → length others ≡ length tiles → HasWall red others
swap_has red tiles others has moved same = record {
  long = same ∙ has.long;
  each = λ face. sum_by-IsPermutation (λ tile. cond (eqb tile face) 1 0) tiles others moved ∙ has.each face;
}

each_face : (red : Bool) (tiles faces : List ℕ) → ((face : ℕ) → number_in tiles face ≡ number_in (sorted_wall red) face) →
    list_all (λ face. number_in tiles face == number_in_wall red face) faces ≡ list_all (λ face. number_in (sorted_wall red) face == number_in_wall red face) faces
each_face red tiles [] same = refl
each_face red tiles (face ∷ faces) same = (λ i. (same face i == number_in_wall red face) && each_face red tiles faces same i)

pub has_is_wall : (red : Bool) (tiles : List ℕ) → HasWall red tiles → is_wall red tiles ≡ true
unfolding is_wall
has_is_wall red tiles has =
    (λ i. eqb (has.long i) 136 && each_face red tiles tile_order has.each i)
    ∙ ap (λ n. eqb n 136 && list_all (λ face. number_in (sorted_wall red) face == number_in_wall red face) tile_order) (sym (sorted_length red))
    ∙ sorted_is_wall red

-- What is left to swap gives the wall.
pub Leaves : List ℕ → ℕ → Bool → ℕ → List ℕ → Type 0
Leaves seed n red place tiles = swapped_from (λ i. drawn_number seed n (135 - i)) place tiles ≡ shuffled_wall seed n red

pub leaves_all : (seed : List ℕ) (n : ℕ) (red : Bool) (place : ℕ) (tiles : List ℕ) → place ≡ 135 → tiles ≡ sorted_wall red → Leaves seed n red place tiles
unfolding shuffled_wall Leaves
leaves_all seed n red place tiles at is = (λ i. swapped_from (λ k. drawn_number seed n (135 - k)) (at i) (is i))

pub leaves_none : (seed : List ℕ) (n : ℕ) (red : Bool) (place : ℕ) (tiles : List ℕ) → place ≡ 0 → Leaves seed n red place tiles → tiles ≡ shuffled_wall seed n red
unfolding Leaves
leaves_none seed n red place tiles at left = sym (ap (λ p. swapped_from (λ i. drawn_number seed n (135 - i)) p tiles) at) ∙ left

pub leaves_next : (seed : List ℕ) (n : ℕ) (red : Bool) (place next to : ℕ) (tiles others : List ℕ) → 0 < place → next ≡ place - 1 → to ≡ drawn_number seed n (135 - place) % (place + 1) →
    others ≡ swap tiles place to → Leaves seed n red place tiles → Leaves seed n red next others
unfolding Leaves
leaves_next seed n red zero next to tiles others some is told swapped left = absurd (omega arith)
leaves_next seed n red (suc place) next to tiles others some is told swapped left =
    ap (λ p. swapped_from (λ i. drawn_number seed n (135 - i)) p others) (same next place is)
    ∙ ap (swapped_from (λ i. drawn_number seed n (135 - i)) place) (swapped ∙ ap (swap tiles (suc place)) told)
    ∙ left
  where
    same : (a b : ℕ) → a ≡ suc b - 1 → a ≡ b
    same a b e = omega (arith, e)

-- the stream

pub stream_begins : (seed : List ℕ) (n : ℕ) (a b : ChaCha) → a ≡ of_seed seed → b ≡ record { key = a.key; stream = n; word_pos = a.word_pos }
    → b ≡ record { key = key_of seed; stream = n; word_pos = 0 }
stream_begins seed n a b is told = told ∙ ap (λ (g : ChaCha). record { key = g.key; stream = n; word_pos = g.word_pos }) is

pub stream_goes : (key : List ℕ) (n place next : ℕ) (a b : ChaCha) → 0 < place → place ≤ 135 → next ≡ place - 1 → a ≡ record { key = key; stream = n; word_pos = 2 * (135 - place) } →
    b ≡ record { key = a.key; stream = a.stream; word_pos = a.word_pos + 2 } → b ≡ record { key = key; stream = n; word_pos = 2 * (135 - next) }
stream_goes key n place next a b some few at is told =
    told
    ∙ ap (λ (g : ChaCha). record { key = g.key; stream = g.stream; word_pos = g.word_pos + 2 }) is
    ∙ ap (λ (p : ℕ). record { key = key; stream = n; word_pos = p }) (two_more place next some few at)
  where
    two_more : (p q : ℕ) → 0 < p → p ≤ 135 → q ≡ p - 1 → 2 * (135 - p) + 2 ≡ 2 * (135 - q)
    two_more p q h i e = omega (arith, h, i, e)

pub number_read : (seed : List ℕ) (n place to : ℕ) (a : ChaCha) → a ≡ record { key = key_of seed; stream = n; word_pos = 2 * (135 - place) } →
    to ≡ (word_at 10 a.key a.stream a.word_pos + 2 ^ 32 * word_at 10 a.key a.stream (a.word_pos + 1)) % (place + 1) → to ≡ drawn_number seed n (135 - place) % (place + 1)
number_read seed n place to a is told = told ∙ ap (λ (g : ChaCha). (word_at 10 g.key g.stream g.word_pos + 2 ^ 32 * word_at 10 g.key g.stream (g.word_pos + 1)) % (place + 1)) is

-- several walls

-- The walls of a seed from one on up to another, each of them a wall.
pub record AreFrom (seed : List ℕ) (red : Bool) (first next : ℕ) (walls : List (List ℕ)) : Type 0 where
  pub are : walls ≡ drop first (shuffled_walls seed red next)
  pub many : first + length walls ≡ next
  pub whole : list_all (is_wall red) walls ≡ true

number_of_walls : (seed : List ℕ) (red : Bool) (number : ℕ) → length (shuffled_walls seed red number) ≡ number
unfolding shuffled_walls
number_of_walls seed red zero = refl
number_of_walls seed red (suc n) = length_push (shuffled_walls seed red n) (shuffled_wall seed n red) ∙ ap (λ k. k + 1) (number_of_walls seed red n) ∙ next n
  where
    next : (n : ℕ) → n + 1 ≡ suc n
    next n = omega arith

pub from_none : (seed : List ℕ) (red : Bool) (first : ℕ) (walls : List (List ℕ)) → walls ≡ [] → AreFrom seed red first first walls
from_none seed red first walls is = record {
  are = is ∙ sym (drop_all first (shuffled_walls seed red first) (all first (length (shuffled_walls seed red first)) (number_of_walls seed red first)));
  many = ap (λ ws. first + length ws) is ∙ no_more first;
  whole = ap (list_all (is_wall red)) is;
}
  where
    all : (a b : ℕ) → b ≡ a → b ≤ a
    all a b e = omega (arith, e)

    no_more : (n : ℕ) → n + 0 ≡ n
    no_more n = omega arith

pub from_more : (seed : List ℕ) (red : Bool) (first number next : ℕ) (wall : List ℕ) (walls more : List (List ℕ)) → next ≡ number + 1 → wall ≡ shuffled_wall seed number red → is_wall red wall ≡ true →
    more ≡ walls ++ wall ∷ [] → AreFrom seed red first number walls → AreFrom seed red first next more
unfolding shuffled_walls
from_more seed red first number next wall walls more at told whole is before = record {
  are = is
      ∙ (λ i. before.are i ++ told i ∷ [])
      ∙ sym (drop-append-le first (shuffled_walls seed red number) (shuffled_wall seed number red ∷ [])
      (few first (length walls) number (length (shuffled_walls seed red number)) before.many (number_of_walls seed red number)))
      ∙ ap (λ n. drop first (shuffled_walls seed red n)) (sym (same next number at));
  many = ap (λ ws. first + length ws) is ∙ ap (λ n. first + n) (length_push walls wall) ∙ later first (length walls) number next before.many at;
  whole = ap (list_all (is_wall red)) is ∙ list_all-append (is_wall red) walls (wall ∷ []) ∙ both (list_all (is_wall red) walls) (is_wall red wall) before.whole whole;
}
  where
    same : (a b : ℕ) → a ≡ b + 1 → a ≡ suc b
    same a b e = omega (arith, e)

    few : (first walls number all : ℕ) → first + walls ≡ number → all ≡ number → first ≤ all
    few first walls number all e f = omega (arith, e, f)

    later : (first walls number next : ℕ) → first + walls ≡ number → next ≡ number + 1 → first + (walls + 1) ≡ next
    later first walls number next e f = omega (arith, e, f)

    both : (a b : Bool) → a ≡ true → b ≡ true → (a && (b && true)) ≡ true
    both true true e f = refl
    both true false e f = f
    both false b e f = e

pub from_all : (seed : List ℕ) (red : Bool) (first number next : ℕ) (walls : List (List ℕ)) → next ≡ first + number → AreFrom seed red first next walls → walls ≡ shuffled_from seed red first number
unfolding shuffled_from
from_all seed red first number next walls at all = all.are ∙ ap (λ n. drop first (shuffled_walls seed red n)) at
