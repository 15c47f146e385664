-- A past has nothing to share, so threads may share it.
use denote.RattleType.{RattleType}
use denote.Param.Send.{IsSync, part_keyless}
use Rattle.mj_past.specs.contracts.past.Past.{the_row}
use Rattle.mj_past.proofs.past.Past.TheSendSync.Send.{send}

pub sync : (E : RattleType) → IsSync (the_row E)
sync E = record { shared = λ d b o κ q. part_keyless (the_row E) (send E) q d b o }
