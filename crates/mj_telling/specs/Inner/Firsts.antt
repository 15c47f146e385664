-- The walls of a seed that are shuffled so far.
use Rattle.std.specs.Prelude.{◌≡◌, ℕ, ◌+◌, ◌^◌, ◌<◌, ◌≤◌, Bool, List, length}
use Rattle.mj_wall.specs.Shuffle.{shuffled_from}

-- The walls that are there are the first ones of so many of a seed, from wall first on.
pub record AreFirst (seed : List ℕ) (red : Bool) (first number : ℕ) (there : List (List ℕ)) : Type 0 where
  pub low : first + number < 2 ^ 64
  pub few : length there ≤ number
  pub are : there ≡ shuffled_from seed red first (length there)
