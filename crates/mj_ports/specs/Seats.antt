-- What entries come to, as far as it shows outside of a game, and what one more entry may do to it.
use Rattle.std.specs.Prelude.{◌≡◌, ℕ, zero, suc, ◌+◌, ◌<◌, ◌≤◌, Bool, true, false, nat_lt, if◌then◌else◌, List, [], ◌++◌, Option, Some, None}
use Rattle.std.specs.Option.{option_map_or}
use Rattle.mj_ports.specs.declared.answers.Heard.{Heard}
use Rattle.mj_ports.specs.declared.answers.Heard.TheVariants.{Taken, Late, Refused, Closing, NoMemory}
use Rattle.mj_ports.specs.declared.answers.Control.{Control}
use Rattle.mj_ports.specs.declared.answers.Control.TheVariants as control

-- A connection is named by the place of its Sat or Back among the entries. The game knows
-- by which author a seat is present, which deed its next line answers, and whether that deed's line was told before,
-- since an answer to it was refused; how many deeds there are, and line k of each seat;
-- which seat has the connection of a place, and what that connection was told by the entries of its seat;
-- which window is open, and whether the game is over.
pub record Showing : Type 0 where
  pub present : ℕ → Option ℕ
  pub due : ℕ → ℕ
  pub is_told : ℕ → Bool
  pub deeds : ℕ
  pub text : ℕ → ℕ → List ℕ
  pub seat_of : ℕ → Option ℕ
  pub told : ℕ → List ℕ
  pub window : Option ℕ
  pub over : Bool

-- What a seat is to be told before it says anything: the line of its due deed once that deed exists, unless it was told.
abbrev pub pending : Showing → ℕ → List ℕ
pending w seat = if w.is_told seat then [] else (if nat_lt (w.due seat) w.deeds then w.text seat (w.due seat) else [])

-- The bytes of a connection: what it was told, and what is pending for its seat; a connection that has ended has no seat.
abbrev pub script : Showing → ℕ → List ℕ
script w place = w.told place ++ option_map_or (pending w) (w.seat_of place) []

-- Lines 0 to count - 1 of a seat.
abbrev pub lines_to : Showing → ℕ → ℕ → List ℕ
lines_to w seat zero = []
lines_to w seat (suc count) = lines_to w seat count ++ w.text seat count

-- What no entry changes: lines that exist stay, no deed goes, and once the game is over it stays so, without further deeds.
pub record Stays (w w' : Showing) : Type 0 where
  pub deeds : w.deeds ≤ w'.deeds
  pub text : (seat k : ℕ) → k < w.deeds → w'.text seat k ≡ w.text seat k
  pub over : w.over ≡ true → w'.over ≡ true
  pub no_deed : w.over ≡ true → w'.deeds ≡ w.deeds

-- A connection that has ended is told nothing more.
pub record StaysEnded (place : ℕ) (w w' : Showing) : Type 0 where
  pub no_seat : w'.seat_of place ≡ None
  pub told : w'.told place ≡ w.told place

-- A seat that is present stays so by its author, with its due deed, and what its connection was told stays the same.
pub record Unmoved (seat : ℕ) (w w' : Showing) : Type 0 where
  pub present : w'.present seat ≡ w.present seat
  pub due : w'.due seat ≡ w.due seat
  pub is_told : w'.is_told seat ≡ w.is_told seat
  pub seat_of : (place : ℕ) → w.seat_of place ≡ Some seat → w'.seat_of place ≡ Some seat
  pub told : (place : ℕ) → w.seat_of place ≡ Some seat → w'.told place ≡ w.told place

-- A connection begins: its seat, one of the four, is present by the author, and was told this, and not yet the line of its
-- due deed; all deeds before that one are there.
pub record Begins (author seat place due : ℕ) (first : List ℕ) (w' : Showing) : Type 0 where
  pub within : seat < 4
  pub present : w'.present seat ≡ Some author
  pub due_is : w'.due seat ≡ due
  pub due_within : due ≤ w'.deeds
  pub is_told : w'.is_told seat ≡ false
  pub seat_of : w'.seat_of place ≡ Some seat
  pub told : w'.told place ≡ first

-- What was pending was told, and then this.
abbrev pub Adds : ℕ → List ℕ → Showing → Showing → Type 0
Adds seat reply w w' = (place : ℕ) → w.seat_of place ≡ Some seat → w'.told place ≡ script w place ++ reply

-- A seat goes on to the next deed, or is asked again.
pub record GoesOn (seat : ℕ) (w w' : Showing) : Type 0 where
  pub present : w'.present seat ≡ w.present seat
  pub due : w'.due seat ≡ w.due seat + 1
  pub is_told : w'.is_told seat ≡ false
  pub seat_of : (place : ℕ) → w.seat_of place ≡ Some seat → w'.seat_of place ≡ Some seat

pub record IsAskedAgain (seat : ℕ) (w w' : Showing) : Type 0 where
  pub present : w'.present seat ≡ w.present seat
  pub due : w'.due seat ≡ w.due seat
  pub is_told : w'.is_told seat ≡ true
  pub seat_of : (place : ℕ) → w.seat_of place ≡ Some seat → w'.seat_of place ≡ Some seat

-- A seat leaves, and its connection ends.
pub record Leaves (seat : ℕ) (w w' : Showing) : Type 0 where
  pub present : w'.present seat ≡ None
  pub no_seat : (place : ℕ) → w.seat_of place ≡ Some seat → w'.seat_of place ≡ None

module _ {R : Type 0} (says : Control R → List ℕ) where
  -- What an answer of a seat does by its verdict: a refused one adds its error line, and a closing one makes the seat leave.
  abbrev pub Answers : Heard R → ℕ → Showing → Showing → Type 0
  Answers Taken seat w w' = GoesOn seat w w' × Adds seat [] w w'
  Answers Late seat w w' = GoesOn seat w w' × Adds seat [] w w'
  Answers (Refused rule) seat w w' = IsAskedAgain seat w w' × Adds seat (says (control.Refused rule)) w w'
  Answers (Closing rule) seat w w' = Leaves seat w w' × Adds seat (says (control.Refused rule)) w w'
  Answers NoMemory seat w w' = ⊥

  -- What a connection is told as it begins: the hello line; after a return the replay head too, and the lines before the
  -- due deed.
  abbrev pub hello : List ℕ
  hello = says control.Hello

  abbrev pub replay : Showing → ℕ → List ℕ
  replay w seat = says control.Hello ++ says (control.Head (w.due seat)) ++ lines_to w seat (w.due seat)
