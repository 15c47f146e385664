-- What the sums of the suits say of a hand: the tiles of each suit and of each honour over its threes.
use Rattle.std.specs.Prelude.{ℕ, zero, suc, ◌≡◌, ◌<◌, ◌+◌, ◌%◌, ◌==◌, true, nat_lt, if◌then◌else◌, List, slice_index}
use Rattle.mj_readings.specs.declared.sums.Over.{Over}
use Rattle.mj_readings.specs.declared.sums.Pairless.{Pairless}

-- The sum of what the numbers below one give.
unfoldable pub sum_below : (ℕ → ℕ) → ℕ → ℕ
sum_below f zero = 0
sum_below f (suc n) = sum_below f n + f n

-- How many tiles stand among so many kinds from one on.
unfoldable pub tiles_from : List ℕ → ℕ → ℕ → ℕ
tiles_from counts from many = sum_below (λ place. slice_index counts (from + place)) many

-- One where a single tile is over when threes are taken away, else none.
unfoldable pub single_over : ℕ → ℕ
single_over tiles = if tiles % 3 == 1 then 1 else 0

-- How many honours, of so many from the first on, have a single tile over.
unfoldable pub single_honours : List ℕ → ℕ → ℕ
single_honours counts many = sum_below (λ honour. single_over (slice_index counts (27 + honour))) many

-- How many suits and honours have a single tile over their threes.
unfoldable pub singles : List ℕ → ℕ
singles counts =
    single_over (tiles_from counts 0 9) + single_over (tiles_from counts 9 9) + single_over (tiles_from counts 18 9)
    + single_honours counts 7

-- How many tiles stand in the suit of a kind; of an honour, how many of it.
unfoldable pub tiles_beside : List ℕ → ℕ → ℕ
tiles_beside counts kind =
    if nat_lt kind 9 then tiles_from counts 0 9
    else if nat_lt kind 18 then tiles_from counts 9 9
    else if nat_lt kind 27 then tiles_from counts 18 9
    else slice_index counts kind

-- What is over in a hand.
pub record IsOver (counts : List ℕ) (over : Over) : Type 0 where
  pub characters : over.characters ≡ tiles_from counts 0 9 % 3
  pub dots : over.dots ≡ tiles_from counts 9 9 % 3
  pub bamboos : over.bamboos ≡ tiles_from counts 18 9 % 3
  pub all : over.singles ≡ singles counts
  pub tiles : over.tiles ≡ tiles_from counts 0 34

-- A suit, from its first kind on, that is two tiles over its threes though no kind of it stands twice.
pub record LacksPair (counts : List ℕ) (from : ℕ) : Type 0 where
  pub over : tiles_from counts from 9 % 3 ≡ 2
  pub once : (place : ℕ) → place < 9 → slice_index counts (from + place) < 2

-- Suits that are such.
pub record ArePairless (counts : List ℕ) (pairless : Pairless) : Type 0 where
  pub characters : pairless.characters ≡ true → LacksPair counts 0
  pub dots : pairless.dots ≡ true → LacksPair counts 9
  pub bamboos : pairless.bamboos ≡ true → LacksPair counts 18
