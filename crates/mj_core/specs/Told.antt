-- What a game is where one seat is told of it.
use Rattle.std.specs.Prelude.{ℕ}
use Rattle.mj_history.specs.Legal.{Game}

-- A game, and the seat that is told of it, 0 to 3; any other number is nobody's.
pub record ToldGame : Type 0 where
  pub seat : ℕ
  pub game : Game
