-- The status that the end of the command `record` gives.
use Rattle.mj_record.specs.declared.journal.RecordEnd.{RecordEnd}
use Rattle.mj_record.specs.declared.journal.RecordEnd.TheVariants as ends
use Rattle.mj_runs.specs.declared.status.Status.{Status}
use Rattle.mj_runs.specs.declared.status.Status.TheVariants as statuses

-- The status that the end of the command `record` gives.
abbrev pub record_status : RecordEnd → Status
record_status ends.Written = statuses.Done
record_status (ends.Bad place) = statuses.BadJournal place
record_status ends.WriteFault = statuses.WriteFault
record_status ends.ReadFault = statuses.ReadFault
record_status ends.TooLong = statuses.TooLong
record_status ends.NoMemory = statuses.NoMemory
