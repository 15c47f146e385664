-- What a command reads and writes that reads a record, and what the command `replay` writes of it.
use Rattle.std.specs.Prelude.{ℕ, List, Option}
use Rattle.std.specs.Io.KnownBytes.{Appends, Keeps}
use Rattle.mj_links.specs.Sinks.{WritesPrefix}
use Rattle.mj_history.specs.Told.{Summary}
use Rattle.mj_history.specs.Records.{IsRecord, IsNoRecord}
use Rattle.mj_replay.specs.Checks.{fault_of}
use Rattle.mj_runs.specs.declared.cause.Cause.{Cause}
use Rattle.mj_checking.specs.declared.replay.ReplayEnd.{ReplayEnd}
use Rattle.mj_checking.specs.declared.replay.ReplayEnd.TheVariants as ends
use Rattle.mj_runs.specs.Inputs.{IsRead, IsCutOff, IsTooLong}
use Rattle.mj_runs.specs.Results.{result_text}

-- The three lines of a summary: the deeds, the points of the four seats, and the deposits.
abbrev pub replay_text : Summary → List ℕ
replay_text summary = result_text summary.deeds summary.points summary.deposits

-- An input is a record, and the lines of its summary are written, whole or in part, as `IsWritten` says.
pub record IsSummed (IsWritten : List ℕ → Type 0) (input : List ℕ) : Type 0 where
  pub summary : Summary
  pub sums : IsRecord input summary
  pub bytes : IsWritten (replay_text summary)

-- An input is no record: the line, counted from 1, is the first that breaks its form, by this cause. Nothing is written.
pub record IsRefused (line : ℕ) (cause : Cause) (input : List ℕ) (old new : Option (List ℕ)) : Type 0 where
  pub breaks : IsNoRecord input line (fault_of cause)
  pub unwritten : Keeps old new

-- What says of an input that is a record what is written of it, whole or in part.
abbrev pub Saying : Type 1
Saying = (List ℕ → Type 0) → List ℕ → Type 0

-- What is written once an input was read, by the end. Running out of memory writes nothing, and no read can fail any more.
abbrev pub TakesInput : Saying → ReplayEnd → List ℕ → Option (List ℕ) → Option (List ℕ) → Type 0
TakesInput Says ends.Written input old new = Says (Appends old new) input
TakesInput Says (ends.Bad line cause) input old new = IsRefused line cause input old new
TakesInput Says ends.WriteFault input old new = Says (WritesPrefix old new) input
TakesInput Says ends.ReadFault input old new = ⊥
TakesInput Says ends.TooLong input old new = ⊥
TakesInput Says ends.NoMemory input old new = Keeps old new

-- An input was read, and this is what is written of it.
pub record TakesAll (Says : Saying) (end : ReplayEnd) (old_left new_left old_written new_written : Option (List ℕ)) : Type 0 where
  pub input : List ℕ
  pub read : IsRead old_left new_left input
  pub written : TakesInput Says end input old_written new_written

-- What a command does that reads a record, by its end. A fault of the source and running out of memory write nothing.
abbrev pub TakesRecord : Saying → ReplayEnd → Option (List ℕ) → Option (List ℕ) → Option (List ℕ) → Option (List ℕ) → Type 0
TakesRecord Says ends.Written old_left new_left old_written new_written = TakesAll Says ends.Written old_left new_left old_written new_written
TakesRecord Says (ends.Bad line cause) old_left new_left old_written new_written = TakesAll Says (ends.Bad line cause) old_left new_left old_written new_written
TakesRecord Says ends.WriteFault old_left new_left old_written new_written = TakesAll Says ends.WriteFault old_left new_left old_written new_written
TakesRecord Says ends.ReadFault old_left new_left old_written new_written = IsCutOff old_left new_left old_written new_written
TakesRecord Says ends.TooLong old_left new_left old_written new_written = IsTooLong old_left new_left old_written new_written
TakesRecord Says ends.NoMemory old_left new_left old_written new_written = Keeps old_written new_written

-- What the command `replay` does.
abbrev pub Replays : ReplayEnd → Option (List ℕ) → Option (List ℕ) → Option (List ℕ) → Option (List ℕ) → Type 0
Replays end old_left new_left old_written new_written = TakesRecord IsSummed end old_left new_left old_written new_written
