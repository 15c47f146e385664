-- What a game shows to those who play it by entries: what its entries come to, what its calls answer, and the lines that are
-- no deed's.
use Rattle.std.specs.Prelude.{ℕ, suc, ◌-◌, ◌==◌, ◌&&◌, not, Bool, false, if◌then◌else◌, List, [], ◌∷◌, ◌++◌, length, flat_map, Option, Some, None, option_map, slice_get, unwrap_or}
use Rattle.std.specs.Option.{option_map_or}
use Rattle.mj_ports.specs.declared.entry.Entry.{Entry}
use Rattle.mj_ports.specs.declared.answers.SitAnswer.{SitAnswer}
use Rattle.mj_ports.specs.declared.answers.SitAnswer.TheVariants as sits
use Rattle.mj_ports.specs.declared.answers.Heard.{Heard}
use Rattle.mj_ports.specs.declared.answers.Heard.TheVariants as heard
use Rattle.mj_ports.specs.declared.answers.Expiry.{Expiry}
use Rattle.mj_ports.specs.declared.answers.Expiry.TheVariants as expiry
use Rattle.mj_ports.specs.declared.answers.Control.{Control}
use Rattle.mj_ports.specs.declared.answers.Control.TheVariants as control
use Rattle.mj_ports.specs.Seats.{Showing}
use Rattle.mj_seating.specs.declared.desk.Placed.{Placed}
use Rattle.mj_seating.specs.declared.desk.Placed.TheVariants as places
use Rattle.mj_deeds.specs.declared.rule.Rule.{Rule}
use Rattle.mj_deeds.specs.declared.answer.Answer.{Answer}
use Rattle.mj_deeds.specs.declared.deed.Deed.{Deed}
use Rattle.mj_wall.specs.declared.setting.Rules.{Rules}
use Rattle.mj_wall.specs.declared.setting.Setting.{Setting}
use Rattle.mj_forms.specs.Lines.{error_text, refusal_line, hello_line, replay_line}
use Rattle.mj_history.specs.After.{After, Chair, Connection, Verdict, Taken, Late, Refused, Closing, verdict_on, is_present, after}
use Rattle.mj_history.specs.SeatLines.{lines_for}
use Rattle.mj_history.specs.Legal.{is_over, is_open, can_expire}
use Rattle.mj_history.specs.Sitting.{placing, author_at}
use Rattle.mj_forms.specs.AnswerForms.{join_of}

-- The number of the deed that a seat's next line answers; 0 where the seat isn't held.
abbrev pub due_at : After → ℕ → ℕ
due_at now seat = option_map_or (λ (chair : Chair). chair.progress.due) (slice_get now.chairs seat) 0

-- The line of that deed was told, since an answer to it was refused.
abbrev pub was_told_at : After → ℕ → Bool
was_told_at now seat = option_map_or (λ (chair : Chair). not (chair.progress.refused == 0)) (slice_get now.chairs seat) false

-- Line k of a seat; nothing where there is no such deed yet.
abbrev pub line_at : Rules → List Deed → ℕ → ℕ → List ℕ
line_at rules deeds seat k = unwrap_or (slice_get (lines_for rules seat deeds) k) []

-- The number of the open window: that of the newest deed, until the game has ended.
abbrev pub open_window : List Deed → Option ℕ
open_window deeds = if not (length deeds == 0) && not (is_over deeds) then Some (length deeds - 1) else None

-- A seat is present by a connection that began at this place.
abbrev pub is_connected : ℕ → Chair → Bool
is_connected place chair = is_present chair && chair.place == place

-- Whose the connection of a place is, as long as it lasts.
abbrev pub seat_at : List Chair → ℕ → Option ℕ
seat_at [] place = None
seat_at (chair ∷ chairs) place = if is_connected place chair then Some 0 else option_map (λ (seat : ℕ). suc seat) (seat_at chairs place)

-- What the connections of a seat that began at a place were told: first the earlier ones, then the newest.
abbrev pub told_by : ℕ → Connection → List ℕ
told_by place c = if c.place == place then c.told else []

abbrev pub told_in : ℕ → Chair → List ℕ
told_in place chair = flat_map (told_by place) chair.earlier ++ (if chair.place == place then chair.progress.told else [])

-- What the connection of a place was told; there is one at most.
abbrev pub told_at : List Chair → ℕ → List ℕ
told_at chairs place = flat_map (told_in place) chairs

-- What shows of what the entries come to.
abbrev pub shown : Rules → After → Showing
shown rules now = record {
  present = author_at now;
  due = due_at now;
  is_told = was_told_at now;
  deeds = length now.deeds;
  text = line_at rules now.deeds;
  seat_of = seat_at now.chairs;
  told = told_at now.chairs;
  window = open_window now.deeds;
  over = is_over now.deeds;
}

-- What shows of a game.
abbrev pub shown_of : Setting → List (Entry Answer) → Showing
shown_of setting entries = shown setting.rules (after setting entries)

-- What a line that wants a seat is answered, by what becomes of its join.
abbrev pub sit_answer : Placed → SitAnswer
sit_answer (places.Sat seat) = sits.Sat seat
sit_answer (places.Back seat) = sits.Back seat
sit_answer (places.Refused why) = sits.Refused why

abbrev pub sits_of : Setting → List (Entry Answer) → List ℕ → SitAnswer
sits_of setting entries text = sit_answer (placing (after setting entries) (join_of text))

-- What a seat is answered by its verdict.
abbrev pub heard_of : Verdict → Heard Rule
heard_of Taken = heard.Taken
heard_of Late = heard.Late
heard_of (Refused rule) = heard.Refused rule
heard_of (Closing rule) = heard.Closing rule

-- The verdict on an answer of a held seat.
abbrev pub verdict_at : Rules → After → ℕ → Answer → Option Verdict
verdict_at rules now seat answer = option_map (λ (chair : Chair). verdict_on rules now.deeds seat answer chair.progress) (slice_get now.chairs seat)

-- What an answer of a seat comes to; it is asked of held seats alone.
abbrev pub hears_of : Setting → List (Entry Answer) → ℕ → Answer → Heard Rule
hears_of setting entries seat answer = option_map_or heard_of (verdict_at setting.rules (after setting entries) seat answer) heard.NoMemory

-- What comes of a window whose time may have run out between two readings of the clock.
abbrev pub expires_of : Setting → List (Entry Answer) → ℕ → ℕ → ℕ → Expiry
expires_of setting entries window t1 t2 =
    if is_open (after setting entries).deeds window
    then (if can_expire setting.rules.limit (after setting entries).deeds window t1 t2 then expiry.Closed else expiry.Early)
    else expiry.Stale

-- The lines that are no deed's.
abbrev pub control_line : Control Rule → List ℕ
control_line control.Hello = hello_line
control_line (control.Head count) = replay_line count
control_line (control.Refused rule) = error_text rule
control_line (control.SitRefused why) = refusal_line why
