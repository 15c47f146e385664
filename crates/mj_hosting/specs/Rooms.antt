-- What is asked of the rooms of a host.
use Rattle.std.specs.Prelude.{ℕ, ◌≤◌, List, []}
use Rattle.mj_words.specs.Asked.{ServedWith}
use Rattle.mj_ports.specs.declared.entry.Entry.{Entry}
use Rattle.mj_ports.specs.declared.picking.Picked.{Picked}
use Rattle.mj_deeds.specs.declared.answer.Answer.{Answer}
use Rattle.mj_forms.specs.AnswerForms.{picked_of}
use Rattle.mj_history.specs.Legal.{Game}
use Rattle.mj_seats.specs.Tables.{handlers_of}
use Rattle.mj_served.specs.Plans.{Plan}
use Rattle.mj_hosting.specs.declared.rooms.Rooms.{Rooms}
use Rattle.mj_hosting.specs.declared.rooms.Rooms.TheVariants as rooms
use Rattle.mj_hosting.specs.Plans.{table_setting, picked_for_one, record_of_one, records_from}

-- There are 1 to 8.
abbrev pub AreWithin : Rooms → Type 0
AreWithin rooms.One = Unit {0}
AreWithin (rooms.Many n) = (1 ≤ n) × (n ≤ 8)

abbrev pub count_of : Rooms → ℕ
count_of rooms.One = 1
count_of (rooms.Many n) = n

-- The handlers that take links for them.
abbrev pub handlers_for : Rooms → ℕ
handlers_for rooms.One = 8
handlers_for (rooms.Many n) = handlers_of n

-- For which of them a line is.
abbrev pub picked_for : Rooms → List ℕ → Picked
picked_for rooms.One = picked_for_one
picked_for (rooms.Many n) = picked_of n

-- What is written of their games.
abbrev pub text_for : Rooms → List Game → List ℕ
text_for rooms.One = record_of_one
text_for (rooms.Many n) = λ games. records_from games 0

-- The plan of the command where the games begin with these entries; where they begin with none it is `one_table` at `One`, and
-- `many_tables` at `Many`.
abbrev pub plan_from : Rooms → ServedWith → (ℕ → List (Entry Answer)) → Plan
plan_from rooms s first = record {
  tables = count_of rooms;
  handlers = handlers_for rooms;
  picked = picked_for rooms;
  setting = table_setting s;
  first = first;
  port = s.port;
  text = text_for rooms;
}

abbrev pub plan_for : Rooms → ServedWith → Plan
plan_for rooms s = plan_from rooms s (λ t. [])
