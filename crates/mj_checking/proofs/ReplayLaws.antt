-- What is written of a record, by the end of the command.
use Rattle.std.proofs.Common.{ℕ, List}
use Rattle.std.specs.Prelude.{Option}
use Rattle.mj_history.specs.Told.{Summary}
use Rattle.mj_history.specs.Records.{IsRecord}
use Rattle.mj_checking.specs.declared.replay.ReplayEnd.{ReplayEnd}
use Rattle.mj_checking.specs.declared.replay.ReplayEnd.TheVariants as ends
use Rattle.mj_runs.specs.Inputs.{IsRead}
use Rattle.mj_checking.specs.Replay.{Saying, TakesInput, TakesRecord, IsSummed, Replays}
use Rattle.mj_checking.specs.Inner.Replaying.{WritesSummary}

-- what is written of the summary is written of the record
pub summed : (end : ReplayEnd) (input : List ℕ) (summary : Summary) (old new : Option (List ℕ)) → IsRecord input summary → WritesSummary end summary old new → TakesInput IsSummed end input old new
summed ends.Written input summary old new sums written = record { summary = summary; sums = sums; bytes = written }
summed (ends.Bad line cause) input summary old new sums written = absurd written
summed ends.WriteFault input summary old new sums written = record { summary = summary; sums = sums; bytes = written }
summed ends.ReadFault input summary old new sums written = absurd written
summed ends.TooLong input summary old new sums written = absurd written
summed ends.NoMemory input summary old new sums written = written

-- what is written of an input is written of what was read
pub taken : (Says : Saying) (end : ReplayEnd) (input : List ℕ) (old_left new_left old new : Option (List ℕ)) → IsRead old_left new_left input →
    TakesInput Says end input old new → TakesRecord Says end old_left new_left old new
taken Says ends.Written input old_left new_left old new read written = record { input = input; read = read; written = written }
taken Says (ends.Bad line cause) input old_left new_left old new read written = record { input = input; read = read; written = written }
taken Says ends.WriteFault input old_left new_left old new read written = record { input = input; read = read; written = written }
taken Says ends.ReadFault input old_left new_left old new read written = absurd written
taken Says ends.TooLong input old_left new_left old new read written = absurd written
taken Says ends.NoMemory input old_left new_left old new read written = written

pub replayed : (end : ReplayEnd) (input : List ℕ) (old_left new_left old new : Option (List ℕ)) → IsRead old_left new_left input →
    TakesInput IsSummed end input old new → Replays end old_left new_left old new
replayed end input old_left new_left old new read written = taken IsSummed end input old_left new_left old new read written
