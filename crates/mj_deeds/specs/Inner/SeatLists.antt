-- A list of at most two seats in two places.
use Rattle.std.specs.Prelude.{ℕ, List}
use Rattle.mj_lists.specs.Padded.{IsPadded}

-- The first places are the seats, and what is left is 0.
abbrev pub ArePlaces : List ℕ → ℕ → Type 0
ArePlaces places len = IsPadded 2 0 places len
