-- The statuses that the ends of the commands over arrivals give.
use Rattle.mj_refereeing.specs.declared.intake.End.TheVariants as ends
use Rattle.mj_refereeing.specs.declared.keep.KeepEnd.{KeepEnd}
use Rattle.mj_refereeing.specs.declared.keep.KeepEnd.TheVariants as keeping
use Rattle.mj_refereeing.specs.declared.referee.RefereeEnd.{RefereeEnd}
use Rattle.mj_refereeing.specs.declared.referee.RefereeEnd.TheVariants as referees
use Rattle.mj_runs.specs.declared.status.Status.{Status}
use Rattle.mj_runs.specs.declared.status.Status.TheVariants as statuses

-- The status that the end of the referee gives, and of the command `safe`.
abbrev pub referee_status : RefereeEnd → Status
referee_status (referees.Told ends.Whole) = statuses.Done
referee_status (referees.Told (ends.Bad line)) = statuses.BadArrival line
referee_status referees.WriteFault = statuses.WriteFault
referee_status referees.ReadFault = statuses.ReadFault
referee_status referees.TooLong = statuses.TooLong
referee_status referees.NoMemory = statuses.NoMemory

-- The status that the end of the command `keep` gives.
abbrev pub keep_status : KeepEnd → Status
keep_status (keeping.Told ends.Whole) = statuses.Done
keep_status (keeping.Told (ends.Bad line)) = statuses.BadArrival line
keep_status keeping.WriteFault = statuses.WriteFault
keep_status keeping.DiskFault = statuses.DiskFault
keep_status keeping.OtherGame = statuses.OtherGame
keep_status (keeping.BadJournal place) = statuses.BadJournal place
keep_status keeping.ReadFault = statuses.ReadFault
keep_status keeping.TooLong = statuses.TooLong
keep_status keeping.NoMemory = statuses.NoMemory
