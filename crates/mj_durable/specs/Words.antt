-- What the words of the command `host` ask for.
use Rattle.std.specs.Prelude.{ℕ, Bool, false, List, [], ◌∷◌, codes, bytes_eq, Option, Some, None}
use Rattle.mj_words.specs.Asked.{Asked, ServingOf, TablesOf, Nothing, ServedWith, serve_asked, tables_asked}
use Rattle.mj_words.specs.Commands.{served_with}
use Rattle.mj_hosting.specs.declared.rooms.Rooms.{Rooms}
use Rattle.mj_hosting.specs.declared.rooms.Rooms.TheVariants.{One, Many}
use Rattle.mj_durable.specs.declared.hosted.Hosted.{Hosted}

-- The first word is that of the command.
abbrev pub begins_with_host : List (List ℕ) → Bool
begins_with_host [] = false
begins_with_host (word ∷ words) = bytes_eq word (codes "host")

-- What is asked first, or else second.
abbrev pub or_else : Asked → Asked → Asked
or_else Nothing second = second
or_else (ServingOf s) second = ServingOf s
or_else first second = first

-- Its other words ask for what they would ask for after `serve`, and where they ask for nothing there, for what they would
-- after `tables`.
abbrev pub host_asked : List (List ℕ) → Asked
host_asked words = or_else (serve_asked words) (tables_asked words)

-- The game of the one table that all joins are for, or the games of so many that joins name.
abbrev pub asked_by_rooms : Rooms → ServedWith → Asked
asked_by_rooms One s = ServingOf s
asked_by_rooms (Many rooms) s = TablesOf rooms s

abbrev pub asked_by_hosted : Option Hosted → Asked
asked_by_hosted None = Nothing
asked_by_hosted (Some hosted) = asked_by_rooms hosted.rooms (served_with hosted.serving)
