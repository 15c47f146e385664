-- Lists that take no memory: a fixed number of places, of which the first hold the items and the others are blank.
use Rattle.std.specs.Prelude.{ℕ, ◌≡◌, ◌≤◌, ◌-◌, ◌++◌, List, length, take, replicate}

-- So many places that hold these items first.
abbrev pub padded : {A : Type 0} → ℕ → A → List A → List A
padded room blank items = items ++ replicate (room - length items) blank

-- So many places of which the first hold so many items and the others are blank.
pub record IsPadded {A : Type 0} (room : ℕ) (blank : A) (places : List A) (count : ℕ) : Type 0 where
  pub size : length places ≡ room
  pub within : count ≤ room
  pub rest : padded room blank (take count places) ≡ places
