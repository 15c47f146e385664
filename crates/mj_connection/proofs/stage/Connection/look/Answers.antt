use Rattle.mj_connection.proofs.stage.Connection.look.Goals as goal

pub returns-in-Free-clause-takes : goal.returns-in-Free-clause-takes
returns-in-Free-clause-takes g c = λ author f.
    let fits = rw c.in-Free.is at f in
    rw c.in-Free.is (c.look_for.ensures.takes author fits)
