-- By which plans the commands over a host play: games of 200 shuffled walls each.
use Rattle.std.specs.Prelude.{ℕ, ◌+◌, ◌*◌, List, [], ◌∷◌, ◌++◌, codes, Option, Some, None}
use Rattle.mj_bytes.specs.Numbers.{number_text}
use Rattle.mj_words.specs.Asked.{ServedWith}
use Rattle.mj_ports.specs.declared.picking.Picked.{Picked}
use Rattle.mj_ports.specs.declared.picking.Picked.TheVariants as picks
use Rattle.mj_ports.specs.declared.sitting.JoinLine.{JoinLine}
use Rattle.mj_wall.specs.declared.setting.Setting.{Setting}
use Rattle.mj_wall.specs.Shuffle.{shuffled_walls, shuffled_from}
use Rattle.mj_forms.specs.AnswerForms.{join_of, picked_of}
use Rattle.mj_history.specs.Legal.{Game}
use Rattle.mj_seats.specs.Tables.{handlers_of}
use Rattle.mj_served.specs.Served.{record_of_game}
use Rattle.mj_served.specs.Plans.{Plan}

-- What a served game is played with: the first 200 walls of its seed, with red fives where it is asked for with them.
abbrev pub served_setting : ServedWith → Setting
served_setting s = record { walls = shuffled_walls s.seed s.red 200; rules = record { limit = s.limit; draws = s.draws; red = s.red } }

-- What the game at a table is played with: of the walls of the seed the 200 from wall 200 times the table's number on.
abbrev pub table_setting : ServedWith → ℕ → Setting
table_setting s table = record { walls = shuffled_from s.seed s.red (200 * table) 200; rules = record { limit = s.limit; draws = s.draws; red = s.red } }

-- Where there is one table, a join with a name and a key of the right form is for it, whatever room it names, and no other line is.
abbrev pub picked_by_join : Option JoinLine → Picked
picked_by_join None = picks.BadName
picked_by_join (Some join) = picks.Table 0

abbrev pub picked_for_one : List ℕ → Picked
picked_for_one line = picked_by_join (join_of line)

-- The record of the one game.
abbrev pub record_of_one : List Game → List ℕ
record_of_one [] = []
record_of_one (game ∷ games) = record_of_game game

-- The records of tables in order, each behind a line that says the table's number, the first of them this one.
unfoldable pub records_from : List Game → ℕ → List ℕ
records_from [] table = []
records_from (game ∷ games) table = codes "table " ++ number_text table ++ 10 ∷ record_of_game game ++ records_from games (table + 1)

-- The plan of the command `serve`, and that of the command `tables`.
abbrev pub one_table : ServedWith → Plan
one_table s = record {
  tables = 1;
  handlers = 8;
  picked = picked_for_one;
  setting = table_setting s;
  first = λ t. [];
  port = s.port;
  text = record_of_one;
}

abbrev pub many_tables : ℕ → ServedWith → Plan
many_tables rooms s = record {
  tables = rooms;
  handlers = handlers_of rooms;
  picked = picked_of rooms;
  setting = table_setting s;
  first = λ t. [];
  port = s.port;
  text = λ games. records_from games 0;
}
