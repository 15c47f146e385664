-- Who sits down, who comes back, and who is refused a seat: the table of sitting, in its order.
use Rattle.std.specs.Prelude.{ℕ, ◌+◌, ◌==◌, Bool, true, false, not, nat_le, if◌then◌else◌, List, [], ◌∷◌, ◌++◌, bytes_eq, Option, Some, None, slice_get, slice_set}
use Rattle.std.specs.Option.{option_map_or}
use Rattle.mj_ports.specs.declared.sitting.JoinLine.{JoinLine}
use Rattle.mj_ports.specs.declared.sitting.SitRefused.TheVariants.{Full, NameTaken, WrongKey, NoKey, TooOften}
use Rattle.mj_seating.specs.declared.desk.Placed.{Placed}
use Rattle.mj_seating.specs.declared.desk.Placed.TheVariants.{Sat, Back, Refused}

-- A seat that is held: whether its player is present, the name and the key of its join, and how often it was taken back.
pub record Occupant : Type 0 where
  pub present : Bool
  pub name : List ℕ
  pub key : Option (List ℕ)
  pub returns : ℕ

-- A seat has this name.
abbrev pub is_named : List ℕ → Occupant → Bool
is_named name held = bytes_eq held.name name

-- The key of a join is that with which the seat was taken.
abbrev pub is_key : List ℕ → Option (List ℕ) → Bool
is_key key None = false
is_key key (Some said) = bytes_eq said key

-- A gone seat that was taken with a key is taken back by the same key, 64 times at most.
abbrev pub back_by_key : ℕ → ℕ → List ℕ → Option (List ℕ) → Placed
back_by_key seat returns key said =
    if not (is_key key said) then Refused WrongKey else (if nat_le 64 returns then Refused TooOften else Back seat)

-- A gone seat that was taken without a key is never taken back.
abbrev pub back : ℕ → ℕ → Option (List ℕ) → Option (List ℕ) → Placed
back seat returns None said = Refused NoKey
back seat returns (Some key) said = back_by_key seat returns key said

-- A seat that has the name of the join: while it is present the name is taken.
abbrev pub at_held : ℕ → Occupant → Option (List ℕ) → Placed
at_held seat held said = if held.present then Refused NameTaken else back seat held.returns held.key said

-- The join goes to the first of the seats, counted from a number on, that has its name; where none has, the next seat is
-- taken, as long as fewer than four are held.
abbrev pub placed_from : ℕ → List Occupant → JoinLine → Placed
placed_from seat [] join = if seat == 4 then Refused Full else Sat seat
placed_from seat (held ∷ others) join = if is_named join.name held then at_held seat held join.key else placed_from (seat + 1) others join

unfoldable pub placed : List Occupant → JoinLine → Placed
placed held join = placed_from 0 held join

-- A seat that has just been taken.
abbrev pub new_held : JoinLine → Occupant
new_held join = record { present = true; name = join.name; key = join.key; returns = 0 }

-- A seat that is taken back, and one that leaves.
abbrev pub came_back : Occupant → Occupant
came_back held = record held { present = true; returns = held.returns + 1 }

abbrev pub gone : Occupant → Occupant
gone held = record held { present = false }

-- One of the seats changes.
abbrev pub changed_at : List Occupant → ℕ → (Occupant → Occupant) → List Occupant
changed_at held seat change = option_map_or (λ one. slice_set held seat (change one)) (slice_get held seat) held

-- The seats after a join.
abbrev pub seated : List Occupant → JoinLine → Placed → List Occupant
seated held join (Sat seat) = held ++ new_held join ∷ []
seated held join (Back seat) = changed_at held seat came_back
seated held join (Refused why) = held

-- A seat is held and its player is present.
abbrev pub is_present_at : List Occupant → ℕ → Bool
is_present_at held seat = option_map_or (λ one. one.present) (slice_get held seat) false
