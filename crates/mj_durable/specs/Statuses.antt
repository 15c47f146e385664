-- The status that the end of the command `host` gives.
use Rattle.mj_durable.specs.declared.hosting.HostEnd.{HostEnd}
use Rattle.mj_durable.specs.declared.hosting.HostEnd.TheVariants as ends
use Rattle.mj_runs.specs.declared.status.Status.{Status}
use Rattle.mj_runs.specs.declared.status.Status.TheVariants as statuses

-- The status that the end of the command `host` gives.
abbrev pub host_status : HostEnd → Status
host_status ends.Over = statuses.Done
host_status ends.HostLost = statuses.HostFault
host_status ends.NotOpened = statuses.HostFault
host_status ends.WriteFault = statuses.WriteFault
host_status ends.DiskFault = statuses.DiskFault
host_status ends.OtherGame = statuses.OtherGame
host_status (ends.BadJournal place) = statuses.BadJournal place
host_status ends.NoMemory = statuses.NoMemory
