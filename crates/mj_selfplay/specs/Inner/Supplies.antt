-- The walls that the game has at hand.
use Rattle.std.specs.Prelude.{ℕ, ◌+◌, ◌≡◌, ◌≤◌, true, false, List, length}
use Rattle.std.specs.List.{list_all}
use Rattle.mj_wall.specs.Places.{is_wall}
use Rattle.mj_wall.specs.Shuffle.{shuffled_walls}
use Rattle.mj_rules.specs.Outcome.{AreSame}

-- All walls of the game of a seed.
abbrev pub game_walls : List ℕ → List (List ℕ)
game_walls seed = shuffled_walls seed false 200

-- Walls at hand are the first ones of a seed: two at least, for a hand and the next one, and at most all of the game.
pub record AreAtHand (seed : List ℕ) (walls : List (List ℕ)) : Type 0 where
  pub some : 2 ≤ length walls
  pub few : length walls ≤ 200
  pub first : walls ≡ shuffled_walls seed false (length walls)
  pub whole : list_all (is_wall false) walls ≡ true

-- They are those of the game for the hand of that number and the next one.
abbrev pub AreEnough : List ℕ → ℕ → List (List ℕ) → Type 0
AreEnough seed hand walls = AreSame walls (game_walls seed) (hand + 1)
