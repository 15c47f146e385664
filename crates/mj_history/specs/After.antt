-- What a list of entries comes to: deeds, seats, slots, and what each seat is told.
use Rattle.std.specs.Prelude.{ℕ, ◌+◌, ◌-◌, ◌==◌, ◌||◌, Bool, true, false, nat_lt, if◌then◌else◌, List, [], ◌∷◌, ◌++◌, length}
use Rattle.std.specs.Prelude.{map, flat_map, take, Option, Some, None, is_some, unwrap_or, slice_get, slice_set}
use Rattle.std.specs.Option.{option_map_or}
use Rattle.mj_ports.specs.declared.entry.Entry.{Entry}
use Rattle.mj_ports.specs.declared.entry.Entry.TheVariants.{Sat, Back, Said, Gone, Expired}
use Rattle.mj_deeds.specs.declared.four.Four.{Four}
use Rattle.mj_deeds.specs.Four.{at_seat}
use Rattle.mj_deeds.specs.declared.rule.Rule.{Rule}
use Rattle.mj_deeds.specs.declared.answer.Answer.{Answer}
use Rattle.mj_deeds.specs.declared.deed.Deed.{Deed}
use Rattle.mj_deeds.specs.declared.deed.Deed.TheVariants.{StartGame}
use Rattle.mj_wall.specs.declared.setting.Rules.{Rules}
use Rattle.mj_wall.specs.declared.setting.Setting.{Setting}
use Rattle.mj_rules.specs.Broken.{broken_rule}
use Rattle.mj_rules.specs.Default.{default_answer}
use Rattle.mj_rules.specs.Outcome.{outcome}
use Rattle.mj_rules.specs.Played.{IsLawful}
use Rattle.mj_window.specs.Slots.{empty_slots, put_at, closes}
use Rattle.mj_forms.specs.Lines.{error_text, hello_line, replay_line}
pub use Rattle.mj_history.specs.SeatLines.{lines_for}

-- How far a seat has come in its connection: the number of the deed that its next line answers, how many of its answers
-- to it were refused, and what the connection was told by the seat's own entries.
pub record Progress : Type 0 where
  pub due : ℕ
  pub refused : ℕ
  pub told : List ℕ

-- A connection of a seat: the place of the entry that began it, and what it was told.
pub record Connection : Type 0 where
  pub place : ℕ
  pub told : List ℕ

-- A seat that is held: by which author it is present, where it is, the name and key of its join, how often it has come back,
-- the place of the entry that began its newest connection and how far it has come in that, and its earlier connections.
pub record Chair : Type 0 where
  pub author : Option ℕ
  pub name : List ℕ
  pub key : Option (List ℕ)
  pub returns : ℕ
  pub place : ℕ
  pub progress : Progress
  pub earlier : List Connection

-- What entries come to: how many they are, the deeds so far, the held seats in order, and the four slots of the newest
-- deed's window.
pub record After : Type 0 where
  pub entered : ℕ
  pub deeds : List Deed
  pub chairs : List Chair
  pub slots : Four (Option Answer)

-- Before the first entry.
abbrev pub before_all : After
before_all = record { entered = 0; deeds = []; chairs = []; slots = empty_slots }

-- A seat's progress when it has just been taken: it is greeted.
abbrev pub first_progress : Progress
first_progress = record { due = 0; refused = 0; told = hello_line }

-- The verdict on an answer: late where the deed that it answers isn't the newest, else refused by the first rule that it
-- breaks, the sixteenth time for good, else taken.
pub data Verdict : Type 0 where
  Taken : Verdict
  Late : Verdict
  Refused : Rule → Verdict
  Closing : Rule → Verdict

abbrev pub verdict_by : ℕ → Option Rule → Verdict
verdict_by refused None = Taken
verdict_by refused (Some rule) = if nat_lt refused 15 then Refused rule else Closing rule

-- The verdict on the answer to a due deed, of so many deeds, after so many refused answers.
abbrev pub verdict : ℕ → ℕ → ℕ → Option Rule → Verdict
verdict due refused deeds rule = if nat_lt (due + 1) deeds then Late else verdict_by refused rule

-- What a connection is to be told before anything else happens: the line of the due deed as soon as that deed exists,
-- unless an answer to it was refused, for then the line was told.
unfoldable pub pending : List (List ℕ) → Progress → List ℕ
pending lines p = if p.refused == 0 then unwrap_or (slice_get lines p.due) [] else []

-- How far a seat has come once its answer has this verdict: an answer that is taken or late answers the due deed, and one
-- that is refused is told its rule.
abbrev pub progress_after : List (List ℕ) → Verdict → Progress → Progress
progress_after lines Taken p = record { due = p.due + 1; refused = 0; told = p.told ++ pending lines p }
progress_after lines Late p = record { due = p.due + 1; refused = 0; told = p.told ++ pending lines p }
progress_after lines (Refused rule) p = record { due = p.due; refused = p.refused + 1; told = p.told ++ pending lines p ++ error_text rule }
progress_after lines (Closing rule) p = record { due = p.due; refused = p.refused + 1; told = p.told ++ pending lines p ++ error_text rule }

-- An answer that is refused for good makes its seat gone.
abbrev pub author_after : Verdict → Option ℕ → Option ℕ
author_after (Closing rule) author = None
author_after other author = author

-- Only an answer that is taken fills the slot of its seat.
abbrev pub slots_after : Verdict → Four (Option Answer) → ℕ → Answer → Four (Option Answer)
slots_after Taken slots seat answer = put_at slots seat answer
slots_after other slots seat answer = slots

-- The verdict on what a present seat says.
abbrev pub verdict_on : Rules → List Deed → ℕ → Answer → Progress → Verdict
verdict_on rules deeds seat answer p = verdict p.due p.refused (length deeds) (broken_rule rules deeds seat answer)

-- What the answer of a seat changes.
unfoldable pub after_said : Rules → After → ℕ → Answer → Chair → After
after_said rules now seat answer chair =
    let v = verdict_on rules now.deeds seat answer chair.progress in
    record now {
      chairs = slice_set now.chairs seat
          (record chair { author = author_after v chair.author; progress = progress_after (lines_for rules seat now.deeds) v chair.progress });
      slots = slots_after v now.slots seat answer;
    }

-- A seat that leaves was told what was pending.
unfoldable pub after_gone : Rules → After → ℕ → Chair → After
after_gone rules now seat chair =
    record now {
      chairs = slice_set now.chairs seat
          (record chair { author = None; progress = record chair.progress { told = chair.progress.told ++ pending (lines_for rules seat now.deeds) chair.progress } });
    }

-- The deed that a seat answers next where it comes back: the newest one where its slot is empty, else the one after it;
-- before the first deed the first.
abbrev pub due_on_return : After → ℕ → ℕ
due_on_return now seat = if is_some (at_seat now.slots seat) then length now.deeds else length now.deeds - 1

-- A seat that comes back is greeted, and told again how many lines stand before its due one, and these lines.
abbrev pub told_again : List (List ℕ) → ℕ → List ℕ
told_again lines due = hello_line ++ replay_line due ++ flat_map (λ line. line) (take due lines)

unfoldable pub after_back : Rules → After → ℕ → ℕ → Chair → After
after_back rules now author seat chair =
    let due = due_on_return now seat in
    record now {
      chairs = slice_set now.chairs seat (record chair {
        author = Some author;
        returns = chair.returns + 1;
        place = now.entered;
        progress = record { due = due; refused = 0; told = told_again (lines_for rules seat now.deeds) due };
        earlier = chair.earlier ++ (record { place = chair.place; told = chair.progress.told }) ∷ [];
      });
    }

-- A seat that has just been taken.
abbrev pub new_chair : ℕ → ℕ → List ℕ → Option (List ℕ) → Chair
new_chair place author name key =
    record { author = Some author; name = name; key = key; returns = 0; place = place; progress = first_progress; earlier = [] }

-- What an entry changes of its own seat.
unfoldable pub own_part : Setting → After → Entry Answer → After
own_part setting now (Sat author name key) = record now { chairs = now.chairs ++ new_chair now.entered author name key ∷ [] }
own_part setting now (Said author seat answer) = option_map_or (after_said setting.rules now seat answer) (slice_get now.chairs seat) now
own_part setting now (Back author seat) = option_map_or (after_back setting.rules now author seat) (slice_get now.chairs seat) now
own_part setting now (Gone author seat) = option_map_or (after_gone setting.rules now seat) (slice_get now.chairs seat) now
own_part setting now (Expired author window t1 t2) = now

-- The name of a seat.
abbrev pub name_at : List Chair → ℕ → List ℕ
name_at chairs seat = option_map_or (λ (chair : Chair). chair.name) (slice_get chairs seat) []

abbrev pub names_of : List Chair → Four (List ℕ)
names_of chairs = record { first = name_at chairs 0; second = name_at chairs 1; third = name_at chairs 2; fourth = name_at chairs 3 }

-- The answers of the four seats: in a slot that is empty stands the default answer.
abbrev pub answers_in : Rules → List Deed → Four (Option Answer) → Four Answer
answers_in rules deeds slots = record {
  first = unwrap_or slots.first (default_answer rules deeds 0);
  second = unwrap_or slots.second (default_answer rules deeds 1);
  third = unwrap_or slots.third (default_answer rules deeds 2);
  fourth = unwrap_or slots.fourth (default_answer rules deeds 3);
}

-- A seat is present.
abbrev pub is_present : Chair → Bool
is_present chair = is_some chair.author

-- The time of a window has run out.
abbrev pub is_expiry : Entry Answer → Bool
is_expiry (Expired author window t1 t2) = true
is_expiry other = false

-- The window closes by this entry: its time has run out, or some seat is present and each present seat has answered.
abbrev pub is_window_closed : After → Entry Answer → Bool
is_window_closed now entry = is_expiry entry || closes now.slots (map is_present now.chairs)

-- The deed that comes next, if it comes now: the game starts once four seats are held, and each closed window has its one
-- next deed, until the end of the game.
unfoldable pub next_deed : Setting → After → Entry Answer → Option Deed
next_deed setting now entry =
    if length now.deeds == 0
    then (if length now.chairs == 4 then Some (StartGame (names_of now.chairs)) else None)
    else (if is_window_closed now entry then outcome setting.rules setting.walls now.deeds (answers_in setting.rules now.deeds now.slots) else None)

-- With that deed, if there is one, and its window with empty slots.
abbrev pub with_deed : After → Option Deed → After
with_deed now None = now
with_deed now (Some deed) = record now { deeds = now.deeds ++ deed ∷ []; slots = empty_slots }

-- One entry: first what it changes of its own seat, then the deed that it adds.
unfoldable pub step : Setting → After → Entry Answer → After
step setting now entry =
    let changed = own_part setting now entry in
    let next = with_deed changed (next_deed setting changed entry) in
    record next { entered = next.entered + 1 }

-- What entries come to, from some point on.
abbrev pub after_from : Setting → After → List (Entry Answer) → After
after_from setting now [] = now
after_from setting now (entry ∷ entries) = after_from setting (step setting now entry) entries

-- What entries come to.
abbrev pub after : Setting → List (Entry Answer) → After
after setting entries = after_from setting before_all entries

-- What the newest connection of a seat is told: what it was told, and what is pending while the seat is present.
unfoldable pub script_at : Rules → ℕ → After → Chair → List ℕ
script_at rules seat now chair = chair.progress.told ++ (if is_present chair then pending (lines_for rules seat now.deeds) chair.progress else [])

-- The bytes of each connection of a seat, the oldest first; there is none where the seat isn't held.
abbrev pub connections_at : Rules → ℕ → After → Chair → List (List ℕ)
connections_at rules seat now chair = map (λ (c : Connection). c.told) chair.earlier ++ script_at rules seat now chair ∷ []

abbrev pub connections_in : Rules → ℕ → After → List (List ℕ)
connections_in rules seat now = option_map_or (connections_at rules seat now) (slice_get now.chairs seat) []

abbrev pub connections : ℕ → Setting → List (Entry Answer) → List (List ℕ)
connections seat setting entries = connections_in setting.rules seat (after setting entries)

-- The bytes of all connections of a seat, one after the other; none where the seat isn't held.
unfoldable pub scripts_at : Rules → ℕ → After → Chair → List ℕ
scripts_at rules seat now chair = flat_map (λ (c : Connection). c.told) chair.earlier ++ script_at rules seat now chair

abbrev pub scripts_in : Rules → ℕ → After → List ℕ
scripts_in rules seat now = option_map_or (scripts_at rules seat now) (slice_get now.chairs seat) []

abbrev pub scripts : ℕ → Setting → List (Entry Answer) → List ℕ
scripts seat setting entries = scripts_in setting.rules seat (after setting entries)

-- The answer in a slot is lawful for its seat in the window on the newest deed.
abbrev pub IsLawfulIn : Rules → List Deed → ℕ → Option Answer → Type 0
IsLawfulIn rules deeds seat None = Unit {0}
IsLawfulIn rules deeds seat (Some answer) = IsLawful rules deeds seat answer

-- So is each of the answers in the four slots.
pub record AreLawfulIn (rules : Rules) (deeds : List Deed) (slots : Four (Option Answer)) : Type 0 where
  pub first : IsLawfulIn rules deeds 0 slots.first
  pub second : IsLawfulIn rules deeds 1 slots.second
  pub third : IsLawfulIn rules deeds 2 slots.third
  pub fourth : IsLawfulIn rules deeds 3 slots.fourth
