-- What is done once an input was read whose game is asked something for a seat.
use Rattle.std.specs.Prelude.{ℕ, List, Option}
use Rattle.std.specs.Io.KnownBytes.{Keeps}
use Rattle.mj_links.specs.Sinks.{WritesPrefix}
use Rattle.mj_history.specs.Arrivals.{input_of, game_of}
use Rattle.mj_refereeing.specs.declared.referee.RefereeEnd.{RefereeEnd}
use Rattle.mj_refereeing.specs.declared.referee.RefereeEnd.TheVariants as ends
use Rattle.mj_history.specs.Legal.{Game}
use Rattle.mj_refereeing.specs.Referee.{TellsAll, ending}

-- By its end: what is written of what is said of the game, and that no read can fail any more.
abbrev pub RefereesInput : ((List ℕ → Type 0) → ℕ → Game → Type 0) → RefereeEnd → ℕ → List ℕ → Option (List ℕ) → Option (List ℕ) → Type 0
RefereesInput Says (ends.Told end) seat input old new = TellsAll Says (ending end) seat input old new
RefereesInput Says ends.WriteFault seat input old new = Says (WritesPrefix old new) seat (game_of (input_of input).reading)
RefereesInput Says ends.ReadFault seat input old new = ⊥
RefereesInput Says ends.TooLong seat input old new = ⊥
RefereesInput Says ends.NoMemory seat input old new = Keeps old new
