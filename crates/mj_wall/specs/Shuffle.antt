-- The walls that a seed gives.
use Rattle.std.specs.Prelude.{ℕ, zero, suc, ◌+◌, ◌-◌, ◌*◌, ◌%◌, ◌^◌, Bool, List, [], ◌∷◌, ◌++◌, flat_map, replicate, drop}
use Rattle.std.specs.List.{swap}
use Rattle.rand_chacha.specs.ChaCha.{key_of, word_at}
use Rattle.mj_tiles.specs.Faces.{tile_order}
use Rattle.mj_wall.specs.Places.{number_in_wall}

-- The tiles of a wall in tile order: each face as often as a wall has it.
unfoldable pub sorted_wall : Bool → List ℕ
sorted_wall red = flat_map (λ face. replicate (number_in_wall red face) face) tile_order

-- The k-th number, from 0 on, that a seed gives for wall n: two words of the stream n of ChaCha20, the first of them the low one.
abbrev pub drawn_number : List ℕ → ℕ → ℕ → ℕ
drawn_number seed n k = word_at 10 (key_of seed) n (2 * k) + 2 ^ 32 * word_at 10 (key_of seed) n (2 * k + 1)

-- The tile at a place, and then at each place below it down to the second, swaps places with one that stands no later: with the
-- one at the place that the remainder of the number for it names.
abbrev pub swapped_from : (ℕ → ℕ) → ℕ → List ℕ → List ℕ
swapped_from number zero tiles = tiles
swapped_from number (suc i) tiles = swapped_from number i (swap tiles (suc i) (number (suc i) % (suc i + 1)))

-- Wall n of a seed: the tiles in tile order, swapped from the last place down by the numbers of the seed, the first for the last
-- place.
unfoldable pub shuffled_wall : List ℕ → ℕ → Bool → List ℕ
shuffled_wall seed n red = swapped_from (λ i. drawn_number seed n (135 - i)) 135 (sorted_wall red)

-- The first so many walls of a seed.
unfoldable pub shuffled_walls : List ℕ → Bool → ℕ → List (List ℕ)
shuffled_walls seed red zero = []
shuffled_walls seed red (suc n) = shuffled_walls seed red n ++ shuffled_wall seed n red ∷ []

-- So many walls of a seed, from wall first on.
unfoldable pub shuffled_from : List ℕ → Bool → ℕ → ℕ → List (List ℕ)
shuffled_from seed red first number = drop first (shuffled_walls seed red (first + number))
