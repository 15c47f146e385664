-- The numbers that the calls of a table answer.
use Rattle.std.specs.Prelude.{ℕ}
use Rattle.mj_ports.specs.declared.sitting.SitRefused.{SitRefused}
use Rattle.mj_ports.specs.declared.sitting.SitRefused.TheVariants.{Full, NameTaken, WrongKey, NoKey, TooOften, Over, BadName, NoRoom}

abbrev pub done : ℕ
done = 0

abbrev pub back : ℕ
back = 1

abbrev pub late : ℕ
late = 2

abbrev pub refused : ℕ
refused = 3

abbrev pub closing : ℕ
closing = 4

abbrev pub stale : ℕ
stale = 5

abbrev pub early : ℕ
early = 6

abbrev pub no_game : ℕ
no_game = 16

abbrev pub in_play : ℕ
in_play = 17

abbrev pub no_memory : ℕ
no_memory = 18

abbrev pub bad_setting : ℕ
bad_setting = 19

abbrev pub no_seat : ℕ
no_seat = 20

abbrev pub not_present : ℕ
not_present = 21

abbrev pub not_due : ℕ
not_due = 22

abbrev pub no_line : ℕ
no_line = 23

abbrev pub too_long : ℕ
too_long = 24

abbrev pub no_room : ℕ
no_room = 25

abbrev pub no_choice : ℕ
no_choice = 26

abbrev pub go_on : ℕ
go_on = 27

-- Why no seat is given.
abbrev pub not_seated : SitRefused → ℕ
not_seated Full = 32
not_seated NameTaken = 33
not_seated WrongKey = 34
not_seated NoKey = 35
not_seated TooOften = 36
not_seated Over = 37
not_seated BadName = 38
not_seated NoRoom = 39
