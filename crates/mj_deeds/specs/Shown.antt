-- The hand of a seat at the end of a hand that is drawn: it is shown, or so many tiles stay hidden.
use Rattle.std.specs.Prelude.{ℕ, List, [], Option, Some, None}

pub data Shown : Type 0 where
  Tiles : (tiles : List ℕ) → Shown
  Hidden : (number : ℕ) → Shown

-- The tiles that are shown.
abbrev pub tiles_shown : Shown → List ℕ
tiles_shown (Tiles tiles) = tiles
tiles_shown (Hidden number) = []

-- A hand of these tiles, or hidden where a number of tiles is given.
abbrev pub shown_or_hidden : Option ℕ → List ℕ → Shown
shown_or_hidden None tiles = Tiles tiles
shown_or_hidden (Some number) tiles = Hidden number

-- How many tiles stay hidden; none where the hand is shown.
abbrev pub number_hidden : Shown → Option ℕ
number_hidden (Tiles tiles) = None
number_hidden (Hidden number) = Some number
