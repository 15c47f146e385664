-- The riichi of a seat: its reach, whether that was accepted, and what it is worth.
use Rattle.std.specs.Prelude.{ℕ, ◌==◌, ◌&&◌, ◌-◌, Bool, false, not, if◌then◌else◌, List, [], ◌∷◌, length, take, Option, Some}
use Rattle.std.specs.List.{list_any}
use Rattle.mj_deeds.specs.declared.deed.Deed.{Deed}
use Rattle.mj_deeds.specs.declared.deed.Deed.TheVariants.{AddedKan, Reach, ReachAccepted}
use Rattle.mj_deeds.specs.Facts.{newest, is_discard_by}
use Rattle.mj_deeds.specs.Firsts.{is_first, ends_first}

-- A deed is the reach of a seat, or the acceptance of it.
abbrev pub is_reach_by : ℕ → Deed → Bool
is_reach_by seat (Reach who) = who == seat
is_reach_by seat other = false

abbrev pub is_accepted_by : ℕ → Deed → Bool
is_accepted_by seat (ReachAccepted who points bid) = who == seat
is_accepted_by seat other = false

-- A seat has reached in the hand; and its reach was accepted, so it is in riichi.
abbrev pub has_reached : List Deed → ℕ → Bool
has_reached deeds seat = list_any (is_reach_by seat) deeds

abbrev pub is_in_riichi : List Deed → ℕ → Bool
is_in_riichi deeds seat = list_any (is_accepted_by seat) deeds

-- Of a list what stands before the first one that passes a test; and what stands after it, nothing where none does.
abbrev pub before_first : {A : Type 0} → (A → Bool) → List A → List A
before_first test [] = []
before_first test (x ∷ xs) = if test x then [] else x ∷ before_first test xs

abbrev pub behind_first : {A : Type 0} → (A → Bool) → List A → List A
behind_first test [] = []
behind_first test (x ∷ xs) = if test x then xs else behind_first test xs

-- The riichi of a seat is a double one: the seat was in its first turn when it reached.
abbrev pub is_double : List Deed → ℕ → Bool
is_double deeds seat = has_reached deeds seat && is_first (before_first (is_reach_by seat) deeds) seat

-- The deeds after the discard of a seat's reach.
abbrev pub behind_reach : List Deed → ℕ → List Deed
behind_reach deeds seat = behind_first (is_discard_by seat) (behind_first (is_reach_by seat) deeds)

-- The deeds without an added kan that is the newest one, for that may yet be robbed.
abbrev pub without_robbed : List Deed → Option Deed → List Deed
without_robbed deeds (Some (AddedKan who tile a b c)) = take (length deeds - 1) deeds
without_robbed deeds other = deeds

-- A seat in riichi has not discarded since the discard of its reach, and nobody has made a chi, a pon or a kan since.
abbrev pub is_ippatsu : List Deed → ℕ → Bool
is_ippatsu deeds seat = is_in_riichi deeds seat && not (list_any (ends_first seat) (behind_reach (without_robbed deeds (newest deeds)) seat))
