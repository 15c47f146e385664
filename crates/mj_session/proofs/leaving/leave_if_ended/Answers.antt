use Rattle.mj_session.proofs.Talking.{due_asked}
use Rattle.mj_session.proofs.leaving.leave_if_ended.Goals as goal

pub returns-then-has_ended-clause-goes : goal.returns-then-has_ended-clause-goes
returns-then-has_ended-clause-goes g c = λ start x o.
    let has = c.has_ended.ensures in
    c.leave_early.ensures.goes start x (due_asked _ _ _ start x _ _ _ o _ has.reading has.writing has.held)

pub returns-clause-goes : goal.returns-clause-goes
returns-clause-goes g c = λ start x o.
    let has = c.has_ended.ensures in
    due_asked _ _ _ start x _ _ _ o _ has.reading has.writing has.held
