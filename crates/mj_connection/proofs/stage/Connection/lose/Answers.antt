use Rattle.mj_connection.specs.Stages.{New}
use Rattle.mj_connection.proofs.Taking.{takes_cut}
use Rattle.mj_connection.proofs.stage.Connection.lose.Goals as goal

pub returns-in-New-clause-takes : goal.returns-in-New-clause-takes
returns-in-New-clause-takes g c = rw c.in-New.is (takes_cut _ _ _ New _ _ tt)

pub returns-in-Asked-clause-takes : goal.returns-in-Asked-clause-takes
returns-in-Asked-clause-takes g c = rw c.in-Asked.is (c.leave.ensures.takes _)
