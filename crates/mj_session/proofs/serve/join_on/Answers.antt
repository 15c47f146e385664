use Rattle.mj_session.proofs.Talking.{due_joined}
use Rattle.mj_session.proofs.serve.join_on.Goals as goal

pub returns-in-None-clause-ends : goal.returns-in-None-clause-ends
returns-in-None-clause-ends g c = λ x took told.
    let sent = rw c.in-None.is at (rw c.turn_with.ensures.idle.1 at c.send.ensures.goes) in
    let goes = rw c.turn_with.ensures.idle.1 at (rw c.send.ensures.idle.1 at c.play.ensures.goes) in
    goes _ x (sent _ x (due_joined _ _ _ _ x _ _ _ _ _ _ c.requires.greeted took told c.turn_with.ensures.takes c.turn_with.ensures.leaves))

pub returns-in-Some-clause-ends : goal.returns-in-Some-clause-ends
returns-in-Some-clause-ends g c = λ x took told.
    let sent = rw c.in-Some.is at (rw c.turn_with.ensures.idle.1 at c.send.ensures.goes) in
    sent _ x (due_joined _ _ _ _ x _ _ _ _ _ _ c.requires.greeted took told c.turn_with.ensures.takes c.turn_with.ensures.leaves)
