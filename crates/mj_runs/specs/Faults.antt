-- How the counts of faults of the source, of the sink and of the disk change by a run, by its status.
use Rattle.std.specs.Prelude.{◌≡◌, ℕ, ◌≤◌, ◌<◌}
use Rattle.mj_runs.specs.declared.status.Status.{Status}
use Rattle.mj_runs.specs.declared.status.Status.TheVariants as statuses

-- The count of read faults never falls, and rises where the status says so.
abbrev pub CountsReadFaults : Status → ℕ → ℕ → Type 0
CountsReadFaults statuses.Done old new = old ≤ new
CountsReadFaults statuses.Words old new = old ≡ new
CountsReadFaults statuses.ReadFault old new = old < new
CountsReadFaults statuses.WriteFault old new = old ≤ new
CountsReadFaults statuses.NoMemory old new = old ≤ new
CountsReadFaults (statuses.BadArrival line) old new = old ≤ new
CountsReadFaults (statuses.BadRecord line cause) old new = old ≤ new
CountsReadFaults statuses.HostFault old new = old ≡ new
CountsReadFaults statuses.TooLong old new = old ≤ new
CountsReadFaults statuses.DiskFault old new = old ≤ new
CountsReadFaults statuses.OtherGame old new = old ≤ new
CountsReadFaults (statuses.BadJournal place) old new = old ≤ new

-- The count of write faults never falls, and rises where the status says so.
abbrev pub CountsWriteFaults : Status → ℕ → ℕ → Type 0
CountsWriteFaults statuses.Done old new = old ≤ new
CountsWriteFaults statuses.Words old new = old ≡ new
CountsWriteFaults statuses.ReadFault old new = old ≡ new
CountsWriteFaults statuses.WriteFault old new = old < new
CountsWriteFaults statuses.NoMemory old new = old ≡ new
CountsWriteFaults (statuses.BadArrival line) old new = old ≤ new
CountsWriteFaults (statuses.BadRecord line cause) old new = old ≡ new
CountsWriteFaults statuses.HostFault old new = old ≤ new
CountsWriteFaults statuses.TooLong old new = old ≡ new
CountsWriteFaults statuses.DiskFault old new = old ≡ new
CountsWriteFaults statuses.OtherGame old new = old ≡ new
CountsWriteFaults (statuses.BadJournal place) old new = old ≡ new

-- The count of faults of the disk never falls, and rises where the status says so.
abbrev pub CountsDiskFaults : Status → ℕ → ℕ → Type 0
CountsDiskFaults statuses.DiskFault old new = old < new
CountsDiskFaults status old new = old ≤ new
