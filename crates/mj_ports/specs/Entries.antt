-- Whose an entry is.
use Rattle.std.specs.Prelude.{◌≢◌, ◌⊎◌, ℕ, Bool, true, false, List, Option, Some, None, count_by}
use Rattle.mj_ports.specs.declared.entry.Entry.{Entry}
use Rattle.mj_ports.specs.declared.entry.Entry.TheVariants.{Sat, Back, Said, Gone, Expired}

module _ {A : Type 0} where
  -- The author of an entry.
  abbrev pub author_of : Entry A → ℕ
  author_of (Sat author name key) = author
  author_of (Back author seat) = author
  author_of (Said author seat answer) = author
  author_of (Gone author seat) = author
  author_of (Expired author window t1 t2) = author

  abbrev pub is_sat : Entry A → Bool
  is_sat (Sat author name key) = true
  is_sat (Back author seat) = false
  is_sat (Said author seat answer) = false
  is_sat (Gone author seat) = false
  is_sat (Expired author window t1 t2) = false

  -- Seats are taken in order, so the next one is as many as were taken.
  abbrev pub next_seat : List (Entry A) → ℕ
  next_seat entries = count_by is_sat entries

  -- The seat that an entry is of, after those before it; an expiry is of none.
  abbrev pub seat_in : List (Entry A) → Entry A → Option ℕ
  seat_in before (Sat author name key) = Some (next_seat before)
  seat_in before (Back author seat) = Some seat
  seat_in before (Said author seat answer) = Some seat
  seat_in before (Gone author seat) = Some seat
  seat_in before (Expired author window t1 t2) = None

  -- An entry is not one of this seat by this author.
  abbrev pub IsAside : ℕ → ℕ → List (Entry A) → Entry A → Type 0
  IsAside author seat before entry = (author_of entry ≢ author) ⊎ (seat_in before entry ≢ Some seat)
