-- The status that the end of a command over a record gives.
use Rattle.mj_checking.specs.declared.replay.ReplayEnd.{ReplayEnd}
use Rattle.mj_checking.specs.declared.replay.ReplayEnd.TheVariants as replays
use Rattle.mj_runs.specs.declared.status.Status.{Status}
use Rattle.mj_runs.specs.declared.status.Status.TheVariants as statuses

-- The status that the end of a command gives that reads a record.
abbrev pub replay_status : ReplayEnd → Status
replay_status replays.Written = statuses.Done
replay_status (replays.Bad line cause) = statuses.BadRecord line cause
replay_status replays.WriteFault = statuses.WriteFault
replay_status replays.ReadFault = statuses.ReadFault
replay_status replays.TooLong = statuses.TooLong
replay_status replays.NoMemory = statuses.NoMemory
