-- What a text begins with.
use Rattle.std.specs.Prelude.{◌≡◌, ℕ, ◌+◌, ◌<◌, List, ◌∷◌}

-- A text begins with a seat, written as a digit, and this stands behind it.
pub record BeginsWithSeat (text : List ℕ) (seat : ℕ) (behind : List ℕ) : Type 0 where
  pub within : seat < 4
  pub parts : text ≡ (48 + seat) ∷ behind
