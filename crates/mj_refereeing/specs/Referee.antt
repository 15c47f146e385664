-- What the command `referee` tells a seat; and what it and others that ask something of the game of arrivals read and write.
use Rattle.std.specs.Prelude.{◌≡◌, ℕ, List, Option}
use Rattle.std.specs.Io.KnownBytes.{Appends, Keeps}
use Rattle.mj_links.specs.Sinks.{WritesPrefix}
use Rattle.mj_rules.specs.Played.{IsPlayed}
use Rattle.mj_history.specs.After.{after, scripts}
use Rattle.mj_history.specs.Legal.{Game, IsLegal}
use Rattle.mj_history.specs.Windows.{EachIsDecided}
use Rattle.mj_secrecy.specs.Trace.{Agree}
use Rattle.mj_history.specs.Arrivals.{Ending, Whole, BadAt, input_of, game_of}
use Rattle.mj_refereeing.specs.declared.intake.End.{End}
use Rattle.mj_refereeing.specs.declared.intake.End.TheVariants as inputs
use Rattle.mj_refereeing.specs.declared.referee.RefereeEnd.{RefereeEnd}
use Rattle.mj_refereeing.specs.declared.referee.RefereeEnd.TheVariants as ends
use Rattle.mj_runs.specs.Inputs.{IsRead, IsCutOff, IsTooLong}

-- The headline: what the referee of a seat writes of a game, whole or in part, as `IsWritten` says.
pub record IsTold (IsWritten : List ℕ → Type 0) (seat : ℕ) (game : Game) : Type 0 where
  -- the bytes are the script of the seat's connection in the game itself
  pub bytes : IsWritten (scripts seat game.setting game.entries)
  -- every game that agrees with it for the seat has the same script, whatever the other seats hold and do and in whatever
  -- order the lines came, so the bytes are that game's too
  pub same : (other : Game) → Agree seat game other → scripts seat other.setting other.entries ≡ scripts seat game.setting game.entries
  -- the game goes by the rules: it is legal, and its deeds are played, each given by four lawful answers
  pub legal : IsLegal game.setting game.entries
  pub played : IsPlayed game.setting.rules game.setting.walls (after game.setting game.entries).deeds
  -- and each window is decided by the answers that were taken in it, with the default of each seat that gave none
  pub decided : EachIsDecided game.setting game.entries

-- An input ends so, and what is said of its game for the seat, as `Says` has it, is written whole.
pub record TellsAll (Says : (List ℕ → Type 0) → ℕ → Game → Type 0) (ends_so : Ending) (seat : ℕ) (input : List ℕ) (old new : Option (List ℕ)) : Type 0 where
  pub ends : (input_of input).ending ≡ ends_so
  pub told : Says (Appends old new) seat (game_of (input_of input).reading)

-- An input that ends so was read, and what is said of its game for the seat is written whole.
pub record RefereesAll (Says : (List ℕ → Type 0) → ℕ → Game → Type 0) (ends_so : Ending) (seat : ℕ) (old_left new_left old_written new_written : Option (List ℕ)) : Type 0 where
  pub input : List ℕ
  pub read : IsRead old_left new_left input
  pub told : TellsAll Says ends_so seat input old_written new_written

-- An input was read, and of what is said of its game for the seat a part from the front is written, and not all.
pub record RefereesPart (Says : (List ℕ → Type 0) → ℕ → Game → Type 0) (seat : ℕ) (old_left new_left old_written new_written : Option (List ℕ)) : Type 0 where
  pub input : List ℕ
  pub read : IsRead old_left new_left input
  pub told : Says (WritesPrefix old_written new_written) seat (game_of (input_of input).reading)

-- How an input ends.
abbrev pub ending : End → Ending
ending inputs.Whole = Whole
ending (inputs.Bad line) = BadAt line

-- What is done for a seat, by the end. A fault of the source and running out of memory write nothing.
abbrev pub Referees : ((List ℕ → Type 0) → ℕ → Game → Type 0) → RefereeEnd → ℕ → Option (List ℕ) → Option (List ℕ) → Option (List ℕ) → Option (List ℕ) → Type 0
Referees Says (ends.Told end) seat old_left new_left old_written new_written = RefereesAll Says (ending end) seat old_left new_left old_written new_written
Referees Says ends.WriteFault seat old_left new_left old_written new_written = RefereesPart Says seat old_left new_left old_written new_written
Referees Says ends.ReadFault seat old_left new_left old_written new_written = IsCutOff old_left new_left old_written new_written
Referees Says ends.TooLong seat old_left new_left old_written new_written = IsTooLong old_left new_left old_written new_written
Referees Says ends.NoMemory seat old_left new_left old_written new_written = Keeps old_written new_written
