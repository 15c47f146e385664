-- The four places of a desk, and what a join may take of them.
use Rattle.std.specs.Prelude.{ℕ, ◌<◌, false, List, [], length, None, slice_get, ⊤}
use Rattle.std.specs.Option.{option_map_or}
use Rattle.mj_seating.specs.declared.desk.Placed.{Placed}
use Rattle.mj_seating.specs.declared.desk.Placed.TheVariants.{Sat, Back, Refused}
use Rattle.mj_seating.specs.Sitting.{Occupant}

-- What stands in the place of a seat that isn't held.
abbrev pub free : Occupant
free = record { present = false; name = []; key = None; returns = 0 }

-- How often a seat was taken back; one that isn't held can't be.
abbrev pub returns_at : List Occupant → ℕ → ℕ
returns_at held seat = option_map_or (λ (one : Occupant). one.returns) (slice_get held seat) 64

-- A seat is given only while one is free, and taken back only where it came back fewer than 64 times.
abbrev pub CanTake : List Occupant → Placed → Type 0
CanTake held (Sat seat) = length held < 4
CanTake held (Back seat) = returns_at held seat < 64
CanTake held (Refused why) = ⊤
