-- What a game shows of a connection, and what the connection was told.
use Rattle.std.specs.Prelude.{◌≡◌, ℕ, ◌<◌, ◌≤◌, true, false, List, [], ◌++◌, Option, Some, None}
use Rattle.mj_ports.specs.declared.answers.Control.TheVariants as control
use Rattle.mj_ports.specs.Seats.{script}
pub use Rattle.mj_connection.specs.declared.stage.SeatAt.{SeatAt}
pub use Rattle.mj_connection.specs.declared.stage.End.TheVariants.{Refused, Over, Closed, Left, Dry, Cut}
pub use Rattle.mj_connection.specs.declared.stage.Connection.{Connection}
pub use Rattle.mj_connection.specs.declared.stage.Connection.TheVariants.{New, Greeted, Free, Asked, Ended}
use Rattle.mj_connection.specs.Seating.{Control, Showing, Owes}

-- The seat, one of the four, is present by the author, and the connection of the place is its own.
pub record Stands (w : Showing) (author : ℕ) (at : SeatAt) : Type 0 where
  pub within : at.seat < 4
  pub present : w.present at.seat ≡ Some author
  pub mine : w.seat_of at.place ≡ Some at.seat

-- What the game shows of a connection of this author. One that has a seat stands by it until it has ended.
abbrev pub Fits : Connection → ℕ → Showing → Type 0
Fits (Free at) author w = Stands w author at × (w.is_told at.seat ≡ false)
Fits (Asked at) author w = Stands w author at × Owes w at.seat
Fits (Ended (Over at)) author w = Stands w author at × (w.over ≡ true) × (w.deeds ≤ w.due at.seat)
Fits (Ended (Closed at)) author w = w.seat_of at.place ≡ None
Fits (Ended (Left at)) author w = w.seat_of at.place ≡ None
Fits _ author w = Unit {0}

-- What a connection was told. It is the script of the connection, but while it waits for a look: then the line of its due
-- deed may be pending. Where memory ran out, the end may be missing.
abbrev pub Tells : {R : Type 0} → (Control R → List ℕ) → Connection → Showing → List ℕ → Type 0
Tells says New w out = out ≡ []
Tells says Greeted w out = out ≡ says control.Hello
Tells says (Free at) w out = out ≡ w.told at.place
Tells says (Asked at) w out = out ≡ script w at.place
Tells says (Ended (Refused why)) w out = out ≡ says control.Hello ++ says (control.SitRefused why)
Tells says (Ended (Over at)) w out = out ≡ script w at.place
Tells says (Ended (Closed at)) w out = out ≡ script w at.place
Tells says (Ended (Left at)) w out = out ≡ script w at.place
Tells says (Ended Dry) w out = (more : List ℕ) × (says control.Hello ≡ out ++ more)
Tells says (Ended (Cut at)) w out = (more : List ℕ) × (script w at.place ≡ out ++ more)

-- A connection waits for a line.
abbrev pub Listens : Connection → Type 0
Listens Greeted = Unit {0}
Listens (Asked at) = Unit {0}
Listens _ = ⊥

-- A connection is not over: it waits for a line or for a look.
abbrev pub IsOpen : Connection → Type 0
IsOpen (Ended how) = ⊥
IsOpen _ = Unit {0}

-- A connection that was not over is cut off where memory ran out.
abbrev pub cut_off : Connection → Connection
cut_off (Free at) = Ended (Cut at)
cut_off (Asked at) = Ended (Cut at)
cut_off (Ended how) = Ended how
cut_off _ = Ended Dry

-- The place of a connection among the entries; none where it has no seat.
abbrev pub place_of : Connection → Option ℕ
place_of (Free at) = Some at.place
place_of (Asked at) = Some at.place
place_of (Ended (Over at)) = Some at.place
place_of (Ended (Closed at)) = Some at.place
place_of (Ended (Left at)) = Some at.place
place_of (Ended (Cut at)) = Some at.place
place_of _ = None
