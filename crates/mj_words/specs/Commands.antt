-- The command that words were read as.
use Rattle.std.specs.Prelude.{map, Option, Some, None}
use Rattle.std.specs.String.{string_bytes}
use Rattle.mj_words.specs.declared.command.Command.{Command}
use Rattle.mj_words.specs.declared.command.Command.TheVariants as commands
use Rattle.mj_words.specs.declared.serving.Hosting.{Hosting}
use Rattle.mj_words.specs.declared.serving.Serving.{Serving}
use Rattle.mj_words.specs.Asked.{Asked, ServedWith, RefereeOf, ServingOf, SummaryOfRecord, HandOf, SelfPlayOf, ViewOfRecord, KeepOf, SafeOf, TablesOf, Nothing}

-- What a game is served with.
abbrev pub served_with : Serving → ServedWith
served_with s = record { seed = s.seed; limit = s.limit; port = s.port; draws = s.draws; red = s.red }

-- It asks for the game, where there is what it is served with.
abbrev pub asked_by_serving : Option Serving → Asked
asked_by_serving None = Nothing
asked_by_serving (Some serving) = ServingOf (served_with serving)

-- It asks for the games in the rooms, where there is what they are served with.
abbrev pub asked_by_hosting : Option Hosting → Asked
asked_by_hosting None = Nothing
asked_by_hosting (Some hosting) = TablesOf hosting.rooms (served_with hosting.serving)

-- What it asks for.
abbrev pub asked_by_command : Command → Asked
asked_by_command (commands.Referee seat) = RefereeOf seat
asked_by_command (commands.Serve serving) = ServingOf (served_with serving)
asked_by_command commands.Replay = SummaryOfRecord
asked_by_command (commands.Hand words) = HandOf (map string_bytes words.items)
asked_by_command (commands.SelfPlay number) = SelfPlayOf number
asked_by_command commands.Observe = ViewOfRecord
asked_by_command (commands.Keep seat) = KeepOf seat
asked_by_command (commands.Safe seat) = SafeOf seat
asked_by_command (commands.Tables hosting) = TablesOf hosting.rooms (served_with hosting.serving)
asked_by_command commands.Unknown = Nothing
