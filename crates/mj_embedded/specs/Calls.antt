-- What the calls of a table do to its game, by what the calls of the game do that they make.
use Rattle.std.specs.Prelude.{ℕ, ◌≡◌, ◌<◌, ◌≤◌, Bool, true, false, List, ◌++◌, drop, length, Option, Some, None, nat_le, nat_lt, is_some, unwrap_or}
use Rattle.mj_ports.specs.declared.answers.SitAnswer.TheVariants as sits
use Rattle.mj_ports.specs.declared.answers.Heard.{Heard}
use Rattle.mj_ports.specs.declared.answers.Heard.TheVariants as heard
use Rattle.mj_ports.specs.declared.answers.Left.TheVariants as left
use Rattle.mj_ports.specs.declared.answers.Expiry.TheVariants as expiry
use Rattle.mj_ports.specs.declared.sitting.SitRefused.{SitRefused}
use Rattle.mj_deeds.specs.declared.answer.Answer.{Answer}
use Rattle.mj_deeds.specs.declared.rule.Rule.{Rule}
use Rattle.mj_deeds.specs.Points.{points_of}
use Rattle.mj_forms.specs.AnswerForms.{answer_of, join_of}
use Rattle.mj_forms.specs.Lines.{rule_number}
use Rattle.mj_history.specs.Legal.{Game, is_over}
use Rattle.mj_history.specs.Shown.{line_at}
use Rattle.mj_core.specs.Calls.{IsSitAnswer, IsHeard, IsLeft, IsExpiry, after_of, author_of_seat, due_of, open_window, may_say_at, pending_at, record_of}
use Rattle.mj_embedded.specs.declared.reads.State.{State}
use Rattle.mj_embedded.specs.declared.reads.Seat.{Seat}
use Rattle.mj_embedded.specs.Answers.{done, back, late, refused, closing, stale, early, no_game, no_memory, no_seat, not_present, not_due, no_line, too_long, no_room, not_seated}

-- A call does so to the game of a table, which stays there; where the table has none, that is answered.
abbrev pub OnGame : (Game → Game → ℕ → Type 0) → Option Game → Option Game → ℕ → Type 0
OnGame Does None new answer = (answer ≡ no_game) × (new ≡ None)
OnGame Does (Some before) None answer = ⊥
OnGame Does (Some before) (Some after) answer = Does before after answer

-- A join of at most 4,095 bytes: the answer of the game to it, told by the number that is answered and by the seat.
pub data SitsWithin (line : List ℕ) (old_seat seat : ℕ) (old new : Game) (answer : ℕ) : Type 0 where
  Sat : answer ≡ done → (taken : ℕ) → seat ≡ taken → IsSitAnswer (sits.Sat taken) old new 1 (join_of line) → SitsWithin line old_seat seat old new answer
  Back : answer ≡ back → (taken : ℕ) → seat ≡ taken → IsSitAnswer (sits.Back taken) old new 1 (join_of line) → SitsWithin line old_seat seat old new answer
  NotSeated : (why : SitRefused) → answer ≡ not_seated why → seat ≡ old_seat → IsSitAnswer (sits.Refused why) old new 1 (join_of line)
      → SitsWithin line old_seat seat old new answer
  SitNoMemory : answer ≡ no_memory → new ≡ old → seat ≡ old_seat → SitsWithin line old_seat seat old new answer

-- A longer line changes nothing.
abbrev pub SitsBy : Bool → List ℕ → ℕ → ℕ → Game → Game → ℕ → Type 0
SitsBy true line old_seat seat old new answer = (answer ≡ too_long) × (new ≡ old) × (seat ≡ old_seat)
SitsBy false line old_seat seat old new answer = SitsWithin line old_seat seat old new answer

abbrev pub Sits : List ℕ → ℕ → ℕ → Game → Game → ℕ → Type 0
Sits line old_seat seat old new answer = SitsBy (nat_lt 4095 (length line)) line old_seat seat old new answer

-- What is answered to what became of an answer, and the number of the rule that it breaks.
abbrev pub Tells : Heard Rule → ℕ → ℕ → ℕ → Type 0
Tells heard.Taken old_rule rule answer = (answer ≡ done) × (rule ≡ old_rule)
Tells heard.Late old_rule rule answer = (answer ≡ late) × (rule ≡ old_rule)
Tells (heard.Refused broken) old_rule rule answer = (answer ≡ refused) × (rule ≡ rule_number broken)
Tells (heard.Closing broken) old_rule rule answer = (answer ≡ closing) × (rule ≡ rule_number broken)
Tells heard.NoMemory old_rule rule answer = (answer ≡ no_memory) × (rule ≡ old_rule)

-- One of the four seats gives an answer: it isn't present, or its due deed doesn't exist, and then nothing changes; else what the game makes of it.
pub data Gives (seat : ℕ) (given : Answer) (old_rule rule : ℕ) (old new : Game) (answer : ℕ) : Type 0 where
  NotPresent : answer ≡ not_present → author_of_seat old seat ≡ None → new ≡ old → rule ≡ old_rule → Gives seat given old_rule rule old new answer
  NotDue : answer ≡ not_due → (author : ℕ) → author_of_seat old seat ≡ Some author → may_say_at old seat ≡ false → new ≡ old → rule ≡ old_rule
      → Gives seat given old_rule rule old new answer
  Given : (author : ℕ) (what : Heard Rule) → author_of_seat old seat ≡ Some author → IsHeard what old new author seat given → Tells what old_rule rule answer
      → Gives seat given old_rule rule old new answer

-- What a seat says is an answer: first it is looked whether the seat is one of the four, and then whether the line is too long.
abbrev pub SaysBy : Bool → Bool → ℕ → List ℕ → ℕ → ℕ → Game → Game → ℕ → Type 0
SaysBy true long seat line old_rule rule old new answer = (answer ≡ no_seat) × (new ≡ old) × (rule ≡ old_rule)
SaysBy false true seat line old_rule rule old new answer = (answer ≡ too_long) × (new ≡ old) × (rule ≡ old_rule)
SaysBy false false seat line old_rule rule old new answer = Gives seat (answer_of line) old_rule rule old new answer

abbrev pub Says : ℕ → List ℕ → ℕ → ℕ → Game → Game → ℕ → Type 0
Says seat line old_rule rule old new answer = SaysBy (nat_lt 3 seat) (nat_lt 4095 (length line)) seat line old_rule rule old new answer

-- One of the four seats leaves.
pub data LeavesOne (seat : ℕ) (old new : Game) (answer : ℕ) : Type 0 where
  LeaveNotPresent : answer ≡ not_present → author_of_seat old seat ≡ None → new ≡ old → LeavesOne seat old new answer
  Gone : answer ≡ done → (author : ℕ) → author_of_seat old seat ≡ Some author → IsLeft left.Gone old new author seat → LeavesOne seat old new answer
  LeaveNoMemory : answer ≡ no_memory → new ≡ old → LeavesOne seat old new answer

abbrev pub LeavesBy : Bool → ℕ → Game → Game → ℕ → Type 0
LeavesBy true seat old new answer = (answer ≡ no_seat) × (new ≡ old)
LeavesBy false seat old new answer = LeavesOne seat old new answer

abbrev pub Leaves : ℕ → Game → Game → ℕ → Type 0
Leaves seat old new answer = LeavesBy (nat_lt 3 seat) seat old new answer

-- The time of a window may have run out.
pub data Expires (window t1 t2 : ℕ) (old new : Game) (answer : ℕ) : Type 0 where
  Closed : answer ≡ done → IsExpiry expiry.Closed old new 0 window t1 t2 → Expires window t1 t2 old new answer
  Stale : answer ≡ stale → IsExpiry expiry.Stale old new 0 window t1 t2 → Expires window t1 t2 old new answer
  Early : answer ≡ early → IsExpiry expiry.Early old new 0 window t1 t2 → Expires window t1 t2 old new answer
  ExpireNoMemory : answer ≡ no_memory → new ≡ old → Expires window t1 t2 old new answer

-- A text is written to the front of the room where it fits there, and its length is said.
abbrev pub WritesBy : Bool → List ℕ → ℕ → List ℕ → List ℕ → Type 0
WritesBy true text answer old new = (answer ≡ done) × (new ≡ text ++ drop (length text) old)
WritesBy false text answer old new = (answer ≡ no_room) × (new ≡ old)

pub record Writes (text : List ℕ) (answer : ℕ) (old new : List ℕ) (many : ℕ) : Type 0 where
  pub many_is : many ≡ length text
  pub written : WritesBy (nat_le (length text) (length old)) text answer old new

-- What stands on the table of a game.
pub record IsState (state : State) (game : Game) : Type 0 where
  pub deeds : state.deeds ≡ length (after_of game).deeds
  pub window : state.window ≡ unwrap_or (open_window (after_of game).deeds) 4294967295
  pub entries : state.entries ≡ length game.entries
  pub over : state.is_over ≡ is_over (after_of game).deeds

-- What stands at a seat of it.
pub record IsSeat (at : Seat) (game : Game) (seat : ℕ) : Type 0 where
  pub due : at.due ≡ due_of game seat
  pub points : at.points ≡ points_of (after_of game).deeds seat
  pub present : at.is_present ≡ is_some (author_of_seat game seat)
  pub may_say : at.may_say ≡ may_say_at game seat

-- What is read leaves the game as it is.
abbrev pub ReadsState : State → Game → Game → ℕ → Type 0
ReadsState state old new answer = (answer ≡ done) × (new ≡ old) × IsState state old

pub data ReadsSeat (seat : ℕ) (old_at at : Seat) (old new : Game) (answer : ℕ) : Type 0 where
  ReadNoSeat : answer ≡ no_seat → 3 < seat → new ≡ old → at ≡ old_at → ReadsSeat seat old_at at old new answer
  ReadSeated : answer ≡ done → seat ≤ 3 → new ≡ old → IsSeat at old seat → ReadsSeat seat old_at at old new answer

-- A line of a seat, which may have to be rendered first.
pub data ReadsLine (seat k : ℕ) (old_room room : List ℕ) (many : ℕ) (old new : Game) (answer : ℕ) : Type 0 where
  LineNoSeat : 3 < seat → new ≡ old → answer ≡ no_seat → many ≡ 0 → room ≡ old_room → ReadsLine seat k old_room room many old new answer
  NoLine : seat ≤ 3 → length (after_of old).deeds ≤ k → new ≡ old → answer ≡ no_line → many ≡ 0 → room ≡ old_room → ReadsLine seat k old_room room many old new answer
  LineNoMemory : seat ≤ 3 → k < length (after_of old).deeds → new ≡ old → answer ≡ no_memory → many ≡ 0 → room ≡ old_room
      → ReadsLine seat k old_room room many old new answer
  Line : seat ≤ 3 → k < length (after_of old).deeds → new ≡ old → Writes (line_at old.setting.rules (after_of old).deeds seat k) answer old_room room many
      → ReadsLine seat k old_room room many old new answer

-- What is pending for a seat.
pub data ReadsPending (seat : ℕ) (old_room room : List ℕ) (many : ℕ) (old new : Game) (answer : ℕ) : Type 0 where
  PendingNoSeat : 3 < seat → new ≡ old → answer ≡ no_seat → many ≡ 0 → room ≡ old_room → ReadsPending seat old_room room many old new answer
  PendingNoMemory : new ≡ old → answer ≡ no_memory → many ≡ 0 → room ≡ old_room → ReadsPending seat old_room room many old new answer
  Pending : seat ≤ 3 → new ≡ old → Writes (pending_at old seat) answer old_room room many → ReadsPending seat old_room room many old new answer

-- The record of the game.
pub data ReadsRecord (old_room room : List ℕ) (many : ℕ) (old new : Game) (answer : ℕ) : Type 0 where
  RecordNoMemory : new ≡ old → answer ≡ no_memory → many ≡ 0 → room ≡ old_room → ReadsRecord old_room room many old new answer
  Record : new ≡ old → Writes (record_of old) answer old_room room many → ReadsRecord old_room room many old new answer
