-- A call that takes the game from a table and puts it back does to the table what it does to the game.
use Rattle.std.proofs.Common.{◌≡◌, ℕ, Option, Some, sym, subst}
use Rattle.mj_history.specs.Legal.{Game}
use Rattle.mj_embedded.specs.Calls.{OnGame}

pub on_game : (Does : Game → Game → ℕ → Type 0) (old new : Option Game) (before after : Game) (answer : ℕ)
    → old ≡ Some before → new ≡ Some after → Does before after answer → OnGame Does old new answer
on_game Does old new before after answer was is does =
    subst (λ (x : Option Game). OnGame Does x new answer) (sym was) (subst (λ (y : Option Game). OnGame Does (Some before) y answer) (sym is) does)
