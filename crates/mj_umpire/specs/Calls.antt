-- What the calls of an umpire answer and enter.
use Rattle.std.specs.Prelude.{◌≡◌, ℕ, ◌&&◌, Bool, true, false, nat_lt, if◌then◌else◌, List, [], ◌∷◌, ◌++◌, length, Option, Some, None, IsSome, slice_get}
use Rattle.std.specs.Option.{option_map_or}
use Rattle.mj_ports.specs.declared.entry.Entry.{Entry}
use Rattle.mj_ports.specs.declared.entry.Entry.TheVariants.{Sat, Back, Said, Gone, Expired}
use Rattle.mj_ports.specs.declared.sitting.JoinLine.{JoinLine}
use Rattle.mj_ports.specs.declared.answers.SitAnswer.{SitAnswer}
use Rattle.mj_ports.specs.declared.answers.SitAnswer.TheVariants as sits
use Rattle.mj_ports.specs.declared.answers.Heard.{Heard}
use Rattle.mj_ports.specs.declared.answers.Heard.TheVariants as heard
use Rattle.mj_ports.specs.declared.answers.Left.{Left}
use Rattle.mj_ports.specs.declared.answers.Left.TheVariants as left
use Rattle.mj_ports.specs.declared.answers.Expiry.{Expiry}
use Rattle.mj_ports.specs.declared.answers.Expiry.TheVariants as expiry
use Rattle.mj_seating.specs.declared.desk.Placed.TheVariants as places
use Rattle.mj_deeds.specs.declared.rule.Rule.{Rule}
use Rattle.mj_deeds.specs.declared.answer.Answer.{Answer}
use Rattle.mj_history.specs.After.{After, Chair, Verdict, Taken, Late, Refused, Closing, after, is_present, pending, lines_for}
use Rattle.mj_history.specs.Legal.{Game, is_open, is_present_by, can_expire}
use Rattle.mj_history.specs.Sitting.{placing, author_at}
use Rattle.mj_history.specs.Shown.{verdict_at as verdict_in, due_at, line_at}
use Rattle.mj_forms.specs.RecordTexts.{record_text}
pub use Rattle.mj_history.specs.Shown.{open_window}

-- What the entries of a game come to.
abbrev pub after_of : Game → After
after_of game = after game.setting game.entries

-- One entry is added, under the same setting.
pub record Enters (old new : Game) (entry : Entry Answer) : Type 0 where
  pub setting : new.setting ≡ old.setting
  pub entries : new.entries ≡ old.entries ++ entry ∷ []

-- A seat is taken under the name and key of the join.
abbrev pub TakesSeat : Option JoinLine → Game → Game → ℕ → Type 0
TakesSeat None old new author = ⊥
TakesSeat (Some join) old new author = Enters old new (Sat author join.name join.key)

-- What the answer to a line that wants a seat says: what the table of sitting says of the join; a seat that is taken or
-- taken back is entered, and one that isn't given changes nothing.
abbrev pub IsSitAnswer : SitAnswer → Game → Game → ℕ → Option JoinLine → Type 0
IsSitAnswer (sits.Sat seat) old new author join = (placing (after_of old) join ≡ places.Sat seat) × TakesSeat join old new author
IsSitAnswer (sits.Back seat) old new author join = (placing (after_of old) join ≡ places.Back seat) × Enters old new (Back author seat)
IsSitAnswer (sits.Refused why) old new author join = (placing (after_of old) join ≡ places.Refused why) × (new ≡ old)
IsSitAnswer sits.NoMemory old new author join = new ≡ old

-- A line that wants a seat would be answered as is right, unless memory is wanting; a seat that would be given for the first
-- time is asked for by a join.
abbrev pub Foresees : SitAnswer → SitAnswer → Option JoinLine → Type 0
Foresees (sits.Sat seat) right join = (right ≡ sits.Sat seat) × IsSome join
Foresees (sits.Back seat) right join = right ≡ sits.Back seat
Foresees (sits.Refused why) right join = right ≡ sits.Refused why
Foresees sits.NoMemory right join = Unit {0}

-- The verdict on what a held seat says.
abbrev pub verdict_at : Game → ℕ → Answer → Option Verdict
verdict_at game seat answer = verdict_in game.setting.rules (after_of game) seat answer

-- An answer is entered, and has this verdict.
abbrev pub Answers : Answer → Game → Game → ℕ → ℕ → Verdict → Type 0
Answers answer old new author seat verdict = (verdict_at old seat answer ≡ Some verdict) × Enters old new (Said author seat answer)

-- What the answer to a line of a seat says.
abbrev pub IsHeard : Heard Rule → Game → Game → ℕ → ℕ → Answer → Type 0
IsHeard heard.Taken old new author seat answer = Answers answer old new author seat Taken
IsHeard heard.Late old new author seat answer = Answers answer old new author seat Late
IsHeard (heard.Refused rule) old new author seat answer = Answers answer old new author seat (Refused rule)
IsHeard (heard.Closing rule) old new author seat answer = Answers answer old new author seat (Closing rule)
IsHeard heard.NoMemory old new author seat answer = new ≡ old

-- What comes of a seat that leaves.
abbrev pub IsLeft : Left → Game → Game → ℕ → ℕ → Type 0
IsLeft left.Gone old new author seat = Enters old new (Gone author seat)
IsLeft left.NoMemory old new author seat = new ≡ old

-- A window may be closed between two readings of the clock: it is the open one, and its time has run out.
abbrev pub may_expire : Game → ℕ → ℕ → ℕ → Bool
may_expire game window t1 t2 = can_expire game.setting.rules.limit (after_of game).deeds window t1 t2

-- What comes of an expiry: closed where the window is open and its time has run out, stale exactly where it isn't the open
-- one, and early exactly where it is and its time has not run out.
abbrev pub IsExpiry : Expiry → Game → Game → ℕ → ℕ → ℕ → ℕ → Type 0
IsExpiry expiry.Closed old new author window t1 t2 = (may_expire old window t1 t2 ≡ true) × Enters old new (Expired author window t1 t2)
IsExpiry expiry.Stale old new author window t1 t2 = (is_open (after_of old).deeds window ≡ false) × (new ≡ old)
IsExpiry expiry.Early old new author window t1 t2 = (is_open (after_of old).deeds window ≡ true) × (may_expire old window t1 t2 ≡ false) × (new ≡ old)
IsExpiry expiry.NoMemory old new author window t1 t2 = new ≡ old

-- A seat is present by an author.
abbrev pub is_here : Game → ℕ → ℕ → Bool
is_here game author seat = option_map_or (is_present_by author) (slice_get (after_of game).chairs seat) false

-- The author by whom a seat is present.
abbrev pub author_of_seat : Game → ℕ → Option ℕ
author_of_seat game seat = author_at (after_of game) seat

-- The number of the deed that a seat's next line answers; 0 where the seat isn't held.
abbrev pub due_of : Game → ℕ → ℕ
due_of game seat = due_at (after_of game) seat

-- A seat is present, and the deed that its next line answers exists.
abbrev pub may_say_at : Game → ℕ → Bool
may_say_at game seat =
    option_map_or (λ (chair : Chair). is_present chair && nat_lt chair.progress.due (length (after_of game).deeds)) (slice_get (after_of game).chairs seat) false

-- What is still to be told to a seat; nothing where it isn't present.
abbrev pub pending_at : Game → ℕ → List ℕ
pending_at game seat =
    option_map_or (λ (chair : Chair). if is_present chair then pending (lines_for game.setting.rules seat (after_of game).deeds) chair.progress else [])
    (slice_get (after_of game).chairs seat) []

-- Line k of a seat; nothing where there is no such deed yet.
abbrev pub line_of : Game → ℕ → ℕ → List ℕ
line_of game seat k = line_at game.setting.rules (after_of game).deeds seat k

-- The record of a game: its header, its walls, and the deeds that its entries come to.
abbrev pub record_of : Game → List ℕ
record_of game = record_text game.setting.rules game.setting.walls (after_of game).deeds
