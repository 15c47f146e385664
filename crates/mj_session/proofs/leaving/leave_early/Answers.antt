use Rattle.std.proofs.Common.{refl, sym, subst, inr, ◌∙◌, arith, ◌≡◌, ◌<◌, List, ℕ, length, false}
use Rattle.std.specs.Io.KnownBytes.{IsAtEnd}
use Rattle.mj_links.specs.Links.{has_newline}
use Rattle.mj_session.specs.Sessions.{PeerEnded, LinkFault}
use Rattle.mj_session.proofs.Talking.{left_early, owed}
use Rattle.mj_session.proofs.Wiring.{took_end, took_kept}
use Rattle.mj_session.proofs.leaving.leave_early.Goals as goal

pub returns-in-Ended-clause-goes : goal.returns-in-Ended-clause-goes
returns-in-Ended-clause-goes g c = λ start x o.
    let e = c.in-Ended.ensures in
    let b = e.bytes.0 in
    let sent = c.send-sent.ensures in
    let bytes = rw c.as_slice.ensures.value at sent.bytes in
    let untold = sent.reading.left ∙ (e.ends c.requires.ended.0 c.requires.ended.1).1 in
    rw c.ended_of.ensures (left_early _ _ _ start x _ _ _ o _ _ _ _ _ b.rest PeerEnded c.send-sent.result (took_end _ _ b e.faults) e.writing
    c.in_turn.ensures.takes c.in_turn.ensures.leaves sent.reading sent.held bytes sent.faults b.unfinished
    (b.unfinished, sent.held ∙ b.none, subst IsAtEnd (sym sent.reading.left) b.ended) untold (λ lines l. l))

pub returns-in-Fault-clause-goes : goal.returns-in-Fault-clause-goes
returns-in-Fault-clause-goes g c = λ start x o.
    let e = c.in-Fault.ensures in
    let sent = c.send-sent-in-Fault.ensures in
    let bytes = rw c.as_slice-in-Fault.ensures.value at sent.bytes in
    let untold = sent.reading.left ∙ (e.ends c.requires.ended.0 c.requires.ended.1).1 in
    rw c.ended_of-in-Fault.ensures (left_early _ _ _ start x _ _ _ o _ _ _ _ _ _ LinkFault c.send-sent-in-Fault.result
    (took_kept _ _ _ _ e.bytes.0 (omega (arith, e.faults))) e.writing
    c.in_turn-in-Fault.ensures.takes c.in_turn-in-Fault.ensures.leaves sent.reading sent.held bytes sent.faults refl (
      refl,
      inr (
        omega (arith, o.took.risen, e.faults, sent.reading.faults),
        subst (λ (l : List ℕ). has_newline l ≡ false) (sym sent.held) e.bytes.1,
        subst (λ (l : List ℕ). length l < 4096) (sym sent.held) e.bytes.2,
      ),
    ) untold (λ lines l. owed _ _ _ _ _ _ (λ u. inr u) l))
