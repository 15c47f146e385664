-- A count of faults has nothing to share, so threads may share it.
use denote.Param.Send.{IsSync, part_keyless}
use Rattle.mj_links.specs.contracts.faults.FaultCount.{the_row}
use Rattle.mj_links.proofs.faults.FaultCount.TheSendSync.Send.{send}

pub sync : IsSync the_row
sync = record { shared = λ d b o κ q. part_keyless the_row send q d b o }
