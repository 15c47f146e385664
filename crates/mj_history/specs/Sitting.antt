-- What a join comes to in a game.
use Rattle.std.specs.Prelude.{ℕ, if◌then◌else◌, List, [], ◌∷◌, map, Option, Some, None, slice_get}
use Rattle.std.specs.Option.{option_map_or}
use Rattle.mj_ports.specs.declared.entry.Entry.{Entry}
use Rattle.mj_ports.specs.declared.entry.Entry.TheVariants as entries
use Rattle.mj_ports.specs.declared.sitting.JoinLine.{JoinLine}
use Rattle.mj_ports.specs.declared.sitting.SitRefused.TheVariants.{Over, BadName}
use Rattle.mj_seating.specs.declared.desk.Placed.{Placed}
use Rattle.mj_seating.specs.declared.desk.Placed.TheVariants as places
use Rattle.mj_seating.specs.Sitting.{Occupant, placed}
use Rattle.mj_deeds.specs.declared.answer.Answer.{Answer}
use Rattle.mj_history.specs.After.{After, Chair, is_present}
use Rattle.mj_history.specs.Legal.{is_over}

-- What the table of sitting asks of a seat.
abbrev pub held_of : Chair → Occupant
held_of chair = record { present = is_present chair; name = chair.name; key = chair.key; returns = chair.returns }

-- A line that is no join gets no seat, nor does any once the game is over; else the table of sitting answers.
unfoldable pub placing : After → Option JoinLine → Placed
placing now None = places.Refused BadName
placing now (Some join) = if is_over now.deeds then places.Refused Over else placed (map held_of now.chairs) join

-- The entry that a join makes by an author; none where it is refused.
abbrev pub entries_of_placing : ℕ → Option JoinLine → Placed → List (Entry Answer)
entries_of_placing author (Some join) (places.Sat seat) = entries.Sat author join.name join.key ∷ []
entries_of_placing author join (places.Back seat) = entries.Back author seat ∷ []
entries_of_placing author join place = []

-- The author by whom a seat is present.
abbrev pub author_at : After → ℕ → Option ℕ
author_at now seat = option_map_or (λ (chair : Chair). chair.author) (slice_get now.chairs seat) None
