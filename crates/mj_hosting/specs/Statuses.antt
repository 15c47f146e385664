-- The status that the end of a command over a host gives.
use Rattle.mj_hosting.specs.declared.plays.ServeEnd.{ServeEnd}
use Rattle.mj_hosting.specs.declared.plays.ServeEnd.TheVariants as serving
use Rattle.mj_runs.specs.declared.status.Status.{Status}
use Rattle.mj_runs.specs.declared.status.Status.TheVariants as statuses

-- The status that the end of the commands `serve` and `tables` gives.
abbrev pub serve_status : ServeEnd → Status
serve_status serving.Over = statuses.Done
serve_status serving.HostLost = statuses.HostFault
serve_status serving.NotOpened = statuses.HostFault
serve_status serving.WriteFault = statuses.WriteFault
serve_status serving.NoMemory = statuses.NoMemory
