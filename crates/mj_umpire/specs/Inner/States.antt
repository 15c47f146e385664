-- What a state keeps, and what it does with what comes.
use Rattle.std.specs.Prelude.{◌≡◌, ℕ, ◌==◌, ◌≤◌, ◌<◌, not, Bool, true, false, IsTrue, List, [], ◌∷◌, ◌++◌, length, map, Option, Some, None, is_some, option_map, slice_get, slice_set, nat_lt}
use Rattle.std.specs.Option.{option_map_or}
use Rattle.std.specs.List.{list_all}
use Rattle.mj_ports.specs.declared.entry.Entry.{Entry}
use Rattle.mj_ports.specs.declared.entry.Entry.TheVariants.{Said}
use Rattle.mj_ports.specs.declared.sitting.JoinLine.{JoinLine}
use Rattle.mj_seating.specs.declared.desk.Placed.{Placed}
use Rattle.mj_seating.specs.declared.desk.Placed.TheVariants.{Sat, Back}
use Rattle.mj_seating.specs.Sitting.{Occupant, placed, changed_at, gone, is_present_at}
use Rattle.mj_deeds.specs.declared.four.Four.{Four}
use Rattle.mj_deeds.specs.Four.{at_seat}
use Rattle.mj_deeds.specs.declared.answer.Answer.{Answer}
use Rattle.mj_deeds.specs.declared.deed.Deed.{Deed}
use Rattle.mj_wall.specs.declared.setting.Rules.{Rules}
use Rattle.mj_wall.specs.declared.setting.Setting.{Setting}
use Rattle.mj_wall.specs.Places.{is_wall}
use Rattle.mj_window.specs.Slots.{empty_slots}
use Rattle.mj_rules.specs.Outcome.{outcome}
use Rattle.mj_rules.specs.Played.{IsPlayed, AllLawful}
use Rattle.mj_history.specs.After.{After, Chair, Progress, Verdict, Closing, is_present, is_expiry, answers_in, verdict_on, own_part, next_deed, step}
use Rattle.mj_history.specs.Laws.{CanGoOn}
use Rattle.mj_history.specs.Sitting.{held_of}
use Rattle.mj_umpire.specs.Calls.{open_window}
use Rattle.mj_umpire.specs.Inner.Untold.{untold}
use Rattle.mj_umpire.specs.declared.chair.Chair.{Chair as Player}

-- A seat as the table of sitting and its player's chair have it.
abbrev pub chair_of : Occupant → Player → Chair
chair_of held player = record {
  author = player.author;
  name = held.name;
  key = held.key;
  returns = held.returns;
  place = 0;
  progress = record { due = player.due; refused = player.refused; told = [] };
  earlier = [];
}

-- All of them, in order.
abbrev pub chairs_of : List Occupant → List Player → List Chair
chairs_of [] players = []
chairs_of (held ∷ desk) [] = []
chairs_of (held ∷ desk) (player ∷ players) = chair_of held player ∷ chairs_of desk players

-- Which of four seats are present at a desk, and their names.
abbrev pub presence_at : List Occupant → List Bool
presence_at desk = is_present_at desk 0 ∷ is_present_at desk 1 ∷ is_present_at desk 2 ∷ is_present_at desk 3 ∷ []

abbrev pub desk_name : List Occupant → ℕ → List ℕ
desk_name desk seat = option_map_or (λ (held : Occupant). held.name) (slice_get desk seat) []

abbrev pub desk_names : List Occupant → Four (List ℕ)
desk_names desk = record { first = desk_name desk 0; second = desk_name desk 1; third = desk_name desk 2; fourth = desk_name desk 3 }

-- The two agree: they have the same seats, and the desk has those present that are present by an author.
pub record AreSeated (desk : List Occupant) (players : List Player) : Type 0 where
  pub many : length players ≡ length desk
  pub held : map held_of (chairs_of desk players) ≡ desk

-- What a state keeps: its table has the deeds, and its desk the seats.
pub record AreKept (told deeds : List Deed) (desk : List Occupant) (players : List Player) : Type 0 where
  pub same : told ≡ deeds
  pub seated : AreSeated desk players

-- How far a player has come, and the player that has come so far.
abbrev pub progress_of : Player → Progress
progress_of player = record { due = player.due; refused = player.refused; told = [] }

abbrev pub player_of : Option ℕ → Progress → Player
player_of author p = record { author = author; due = p.due; refused = p.refused }

-- The player of a seat.
abbrev pub player_in : Chair → Player
player_in chair = player_of chair.author chair.progress

-- What a state stands for: the rules, the deeds, the seats as the desk and their chairs have them, and the slots of the
-- newest deed's window.
pub record Position : Type 0 where
  pub rules : Rules
  pub deeds : List Deed
  pub desk : List Occupant
  pub players : List Player
  pub slots : Four (Option Answer)

-- What a state says that the entries come to.
abbrev pub now_of : Position → After
now_of p = record { entered = 0; deeds = p.deeds; chairs = chairs_of p.desk p.players; slots = p.slots }

-- Before the first entry.
abbrev pub nobody : Rules → Position
nobody rules = record { rules = rules; deeds = []; desk = []; players = []; slots = empty_slots }

-- An entry has been made: the state is what it comes to.
pub record Steps (setting : Setting) (old new : Position) (entry : Entry Answer) : Type 0 where
  pub rules : new.rules ≡ old.rules
  pub stepped : untold (now_of new) ≡ untold (step setting (now_of old) entry)

-- The game has its walls and the state its rules.
pub record HasWalls (setting : Setting) (old : Position) : Type 0 where
  pub rules : old.rules ≡ setting.rules
  pub some : 1 ≤ length setting.walls
  pub few : length setting.walls ≤ 200
  pub whole : IsTrue (list_all (is_wall setting.rules.red) setting.walls)

-- A deed may be added to these deeds by the answers in these slots.
pub record MayAdd (setting : Setting) (deeds : List Deed) (slots : Four (Option Answer)) : Type 0 where
  pub played : IsPlayed setting.rules setting.walls deeds
  pub lawful : AllLawful setting.rules deeds (answers_in setting.rules deeds slots)

-- With the next deed, if there is one, and its window with empty slots.
abbrev pub with_next : Position → Option Deed → Position
with_next p None = p
with_next p (Some deed) = record p { deeds = p.deeds ++ deed ∷ []; slots = empty_slots }

-- The deed that follows by the answers in the slots has been added.
pub record Adds (setting : Setting) (old new : Position) (deed : Deed) : Type 0 where
  pub follows : outcome setting.rules setting.walls old.deeds (answers_in setting.rules old.deeds old.slots) ≡ Some deed
  pub new_is : new ≡ with_next old (Some deed)

pub record Advances (setting : Setting) (old new : Position) : Type 0 where
  pub deed : Deed
  pub adds : Adds setting old new deed

-- A state of which a seat has changed, and perhaps its slot.
abbrev pub changed : Position → List Occupant → List Player → Four (Option Answer) → Position
changed p desk players slots = record p { desk = desk; players = players; slots = slots }

-- A seat has come so far by an answer with this verdict: one that is refused for good leaves its desk.
abbrev pub desk_after : Verdict → List Occupant → ℕ → List Occupant
desk_after (Closing rule) desk seat = changed_at desk seat gone
desk_after other desk seat = desk

-- A seat has changed by an entry that is no expiry, and the window is closed where nobody is waited for.
abbrev pub Settles : Setting → Position → Position → Type 0
Settles setting middle new = (entry : Entry Answer) → is_expiry entry ≡ false → new ≡ with_next middle (next_deed setting (now_of middle) entry)

-- The game has begun exactly with four held seats.
abbrev pub IsStarted : After → Type 0
IsStarted now = (length now.chairs == 4) ≡ not (length now.deeds == 0)

-- What is true where a seat changes.
pub record CanSettle (setting : Setting) (old : Position) (seat : ℕ) (desk : List Occupant) (player : Player) (slots : Four (Option Answer)) : Type 0 where
  pub ground : HasWalls setting old
  pub held : seat < length old.players
  pub seated : AreSeated desk (slice_set old.players seat player)
  pub started : IsStarted (now_of old)
  pub may : MayAdd setting old.deeds slots

-- The deed that a held seat answers next exists.
abbrev pub is_due : After → ℕ → Bool
is_due now seat = option_map_or (λ (chair : Chair). nat_lt chair.progress.due (length now.deeds)) (slice_get now.chairs seat) false

-- As long as the deed that a seat answers next exists, its slot is empty.
abbrev pub IsOpen : After → Type 0
IsOpen now = (seat : ℕ) → is_due now seat ≡ true → at_seat now.slots seat ≡ None

-- A seat that is present has room for one more refused answer, and none waits for a deed after the next one.
pub record IsPatient (deeds : List Deed) (chair : Chair) : Type 0 where
  pub due : chair.progress.due ≤ length deeds
  pub refused : is_present chair ≡ true → chair.progress.refused ≤ 15

abbrev pub IsPatientAt : List Deed → Option Chair → Type 0
IsPatientAt deeds None = Unit {0}
IsPatientAt deeds (Some chair) = IsPatient deeds chair

-- What is true of a game in play.
pub record IsInOrder (now : After) : Type 0 where
  pub few : length now.chairs ≤ 4
  pub started : IsStarted now
  pub empty : IsOpen now
  pub patient : (seat : ℕ) → IsPatientAt now.deeds (slice_get now.chairs seat)

-- A seat is held and present.
abbrev pub is_present_in : After → ℕ → Bool
is_present_in now seat = option_map_or is_present (slice_get now.chairs seat) false

-- What the table of sitting says of a join at these seats.
abbrev pub placed_in : After → JoinLine → Placed
placed_in now join = placed (map held_of now.chairs) join

-- What is true where a join takes a seat, the next one: the game hasn't begun.
pub record CanTakeSeat (old : Position) (join : JoinLine) : Type 0 where
  pub seat : ℕ
  pub order : IsInOrder (now_of old)
  pub unbegun : (length old.deeds == 0) ≡ true
  pub placing : placed_in (now_of old) join ≡ Sat seat

-- What is true where a join takes a seat back.
pub record CanTakeBack (setting : Setting) (old : Position) (seat : ℕ) (join : JoinLine) : Type 0 where
  pub ground : HasWalls setting old
  pub order : IsInOrder (now_of old)
  pub held : seat < length (now_of old).chairs
  pub placing : placed_in (now_of old) join ≡ Back seat
  pub may : MayAdd setting old.deeds old.slots

-- What is true where a present seat answers its due deed: whoever enters the answer, a deed may be added once it is in.
pub record CanHear (setting : Setting) (old : Position) (seat : ℕ) (answer : Answer) : Type 0 where
  pub ground : HasWalls setting old
  pub order : IsInOrder (now_of old)
  pub due : is_due (now_of old) seat ≡ true
  pub present : is_present_in (now_of old) seat ≡ true
  pub going : (author : ℕ) → CanGoOn setting (own_part setting (now_of old) (Said author seat answer))

-- The verdict on an answer of a held seat.
abbrev pub state_verdict : Rules → After → ℕ → Answer → Option Verdict
state_verdict rules now seat answer = option_map (λ (chair : Chair). verdict_on rules now.deeds seat answer chair.progress) (slice_get now.chairs seat)

-- An answer has a verdict and is entered; who entered it makes no difference.
pub record Hears (setting : Setting) (old new : Position) (seat : ℕ) (answer : Answer) (verdict : Verdict) : Type 0 where
  pub judged : state_verdict setting.rules (now_of old) seat answer ≡ Some verdict
  pub entered : (author : ℕ) → Steps setting old new (Said author seat answer)

-- What is true where a present seat leaves.
pub record CanLeave (setting : Setting) (old : Position) (seat : ℕ) : Type 0 where
  pub ground : HasWalls setting old
  pub order : IsInOrder (now_of old)
  pub present : is_present_in (now_of old) seat ≡ true
  pub may : MayAdd setting old.deeds old.slots

-- What is true where the time of the open window has run out.
pub record CanExpire (setting : Setting) (old : Position) : Type 0 where
  pub ground : HasWalls setting old
  pub window : is_some (open_window old.deeds) ≡ true
  pub may : MayAdd setting old.deeds old.slots
