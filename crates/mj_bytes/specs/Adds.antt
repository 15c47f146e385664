-- What is written after a text.
use Rattle.std.specs.Prelude.{◌≡◌, ℕ, List, ◌++◌}

-- the new text is the old one with the piece after it
pub record Adds (old new piece : List ℕ) : Type 0 where
  pub is : new ≡ old ++ piece
