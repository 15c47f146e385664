use Rattle.mj_refereeing.proofs.PlayLaws.{own-taken, own-late, own-refused, own-closing}
use Rattle.mj_refereeing.proofs.PassLaws.{said-as}
use Rattle.mj_refereeing.proofs.arriving.own_answer.Goals as goal

pub returns-in-Taken-clause-does : goal.returns-in-Taken-clause-does
returns-in-Taken-clause-does c = λ text reads. own-taken _ _ _ _ text _ _ c.requires.play c.requires.present c.requires.asked
    (said-as text _ _ _ _ _ _ reads (rw c.seat-seat.ensures at c.in-Taken.ensures.hears)) c.in_ok-pending.ensures.ok

pub returns-in-Late-clause-does : goal.returns-in-Late-clause-does
returns-in-Late-clause-does c = λ text reads. own-late _ _ _ _ text _ _ c.requires.play c.requires.present c.requires.asked
    (said-as text _ _ _ _ _ _ reads (rw c.seat-seat.ensures at c.in-Late.ensures.hears)) c.in_ok-pending.ensures.ok

pub returns-in_ok-write_control-in-Refused-clause-does : goal.returns-in_ok-write_control-in-Refused-clause-does
returns-in_ok-write_control-in-Refused-clause-does c = λ text reads. own-refused _ _ _ _ text _ _ _ _ c.requires.play c.requires.present c.requires.asked
    (said-as text _ _ _ _ _ _ reads (rw c.seat-seat.ensures at c.in-Refused.ensures.hears)) c.in_ok-pending.ensures.ok c.in_ok-write_control-in-Refused.ensures.ok

pub returns-in_ok-write_control-in-Closing-clause-does : goal.returns-in_ok-write_control-in-Closing-clause-does
returns-in_ok-write_control-in-Closing-clause-does c = λ text reads. own-closing _ _ _ _ text _ _ _ _ c.requires.play c.requires.present c.requires.asked
    (said-as text _ _ _ _ _ _ reads (rw c.seat-seat.ensures at c.in-Closing.ensures.hears)) c.in_ok-pending.ensures.ok c.in_ok-write_control-in-Closing.ensures.ok
