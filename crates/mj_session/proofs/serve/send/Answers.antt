use Rattle.mj_session.proofs.Talking.{sent_goes, sent_last, sent_failed}
use Rattle.mj_session.proofs.serve.send.Goals as goal

pub returns-in-Some-clause-goes : goal.returns-in-Some-clause-goes
returns-in-Some-clause-goes g c = λ start x o.
    let bytes = rw c.as_slice.ensures.value at c.send-sent.ensures.bytes in
    rw c.ended_of.ensures (sent_last _ _ _ start x _ _ _ _ _ o c.send-sent.ensures.reading c.send-sent.ensures.held _ c.send-sent.result c.in-Some.ensures bytes c.send-sent.ensures.faults)

pub returns-in-Whole-clause-goes : goal.returns-in-Whole-clause-goes
returns-in-Whole-clause-goes g c = λ start x o.
    let bytes = rw c.as_slice-in-None.ensures.value at c.in-Whole.ensures.bytes in
    sent_goes _ _ _ start x _ _ _ _ _ o c.in-Whole.ensures.reading c.in-Whole.ensures.held c.in-None.ensures bytes c.in-Whole.ensures.faults

pub returns-in-Failed-clause-goes : goal.returns-in-Failed-clause-goes
returns-in-Failed-clause-goes g c = λ start x o.
    let bytes = rw c.as_slice-in-None.ensures.value at c.in-Failed.ensures.bytes in
    rw c.ended_of-in-Failed.ensures (sent_failed _ _ _ start x _ _ _ _ _ o c.in-Failed.ensures.reading c.in-Failed.ensures.held _ _ _
    c.in-None.ensures c.in_turn.ensures.takes c.in_turn.ensures.leaves bytes c.in-Failed.ensures.faults)
