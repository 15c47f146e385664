use Rattle.std.proofs.Common.{arith, refl, inr}
use Rattle.mj_session.specs.Sessions.{PeerEnded, LinkFault, LineTooLong}
use Rattle.mj_session.proofs.Talking.{due_line, done_lost, done_short, owed}
use Rattle.mj_session.proofs.Wiring.{took_line, took_end, took_kept}
use Rattle.mj_session.proofs.serve.hear_next.Goals as goal

pub returns-in-Line-clause-goes : goal.returns-in-Line-clause-goes
returns-in-Line-clause-goes g c = λ start x o.
    let goes = rw c.in_turn.ensures.idle.1 at c.send.ensures.goes in
    let line = c.in-Line.ensures in
    goes start x (due_line _ _ _ start x _ _ _ _ _ _ _ o line.writing _ (took_line _ _ _ line.bytes line.faults) c.in_turn.ensures.takes c.in_turn.ensures.leaves)

pub returns-in-Ended-clause-goes : goal.returns-in-Ended-clause-goes
returns-in-Ended-clause-goes g c = λ start x o.
    let e = c.in-Ended.ensures in
    let b = e.bytes.0 in
    rw c.ended_of.ensures (done_lost _ _ _ start x _ _ _ _ _ _ _ o e.writing PeerEnded b.rest (took_end _ _ b e.faults)
    c.in_turn-in-Ended.ensures.takes c.requires.can.0 c.in_turn-in-Ended.ensures.leaves b.unfinished (b.unfinished, b.none, b.ended) (λ l. owed _ _ _ _ _ _ (λ u. absurd u) l))

pub returns-in-Fault-clause-goes : goal.returns-in-Fault-clause-goes
returns-in-Fault-clause-goes g c = λ start x o.
    let e = c.in-Fault.ensures in
    rw c.ended_of-in-Fault.ensures (done_lost _ _ _ start x _ _ _ _ _ _ _ o e.writing LinkFault _
    (took_kept _ _ _ _ e.bytes.0 (omega (arith, e.faults))) c.in_turn-in-Fault.ensures.takes c.requires.can.0 c.in_turn-in-Fault.ensures.leaves
    refl
    (refl, inr (omega (arith, o.took.risen, e.faults), e.bytes.1, e.bytes.2)) (λ l. owed _ _ _ _ _ _ (λ u. absurd u) l))

pub returns-in-TooLong-clause-goes : goal.returns-in-TooLong-clause-goes
returns-in-TooLong-clause-goes g c = λ start x o.
    let e = c.in-TooLong.ensures in
    rw c.ended_of-in-TooLong.ensures (done_lost _ _ _ start x _ _ _ _ _ _ _ o e.writing LineTooLong _ (took_kept _ _ _ _ e.bytes.0 e.faults)
    c.in_turn-in-TooLong.ensures.takes c.requires.can.0 c.in_turn-in-TooLong.ensures.leaves refl (refl, e.bytes.1, e.bytes.2) (λ l. l))

pub returns-in-NoMemory-clause-goes : goal.returns-in-NoMemory-clause-goes
returns-in-NoMemory-clause-goes g c = λ start x o.
    let e = c.in-NoMemory.ensures in
    done_short _ _ _ start x _ _ _ _ _ _ _ o e.writing (took_kept _ _ _ _ e.bytes e.faults) c.in_turn-in-NoMemory.ensures.takes c.in_turn-in-NoMemory.ensures.leaves
